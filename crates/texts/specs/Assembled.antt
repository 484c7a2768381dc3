-- The texts of programs, what is assembled of them, and why the others are none.
use Rattle.std.specs.Prelude.{◌≡◌, ◌≢◌, ℕ, ◌+◌, ◌≤◌, ◌==◌, List, ◌++◌, length, map, codes, Option}
use Rattle.std.specs.Prelude.{Some, None, count_by, Result, Ok, Err}
use Rattle.std.specs.Str.{IsUtf8}
use Rattle.bpf_model.specs.declared.insn.Insn.{Insn}
use Rattle.bpf_model.specs.Spelling.{IsProgram, text}
use Rattle.disasm.specs.Text.{line_of}
use Rattle.asm.specs.declared.fault.AsmFault.{AsmFault}
use Rattle.asm.specs.declared.fault.AsmFault.TheVariants as asm_faults
use Rattle.asm.specs.Faults.{statements_in, IsAsmFault}
use Rattle.asm_source.specs.Maps.{index_in, maps_in}
use Rattle.asm_source.specs.Plain.{plain}
use Rattle.asm_source.specs.declared.fault.SourceFault.{SourceFault}
use Rattle.program_files.specs.declared.loader.fault.LoadFault.{LoadFault}
use Rattle.program_files.specs.declared.loader.fault.LoadFault.TheVariants as load_faults
use Rattle.program_files.specs.ProgramFile.{FileContent, FileSays, IsLoadFault, heading}
use Rattle.texts.specs.declared.assembly.TextFault.{TextFault}
use Rattle.texts.specs.declared.assembly.TextFault.TheVariants.{NotUtf8, Unnamed, Flawed, BadHead, Memory}

-- the line that stands between a program file's head and its slots
abbrev pub code_line : List ℕ
code_line = codes "\ncode\n"

-- The text is the lines of a program file's head, the first line `code`, and instructions; or, where
-- it has no such line, instructions alone.
abbrev pub IsSplit : List ℕ → Option (List ℕ) → List ℕ → Type 0
IsSplit bytes None body = (body ≡ bytes) × ((xs ys : List ℕ) → bytes ≢ xs ++ (code_line ++ ys))
IsSplit bytes (Some head) body =
    (bytes ≡ head ++ (code_line ++ body))
    × ((xs ys : List ℕ) → bytes ≡ xs ++ (code_line ++ ys) → length head ≤ length xs)

-- the head of a program file: the text's own, or no maps and an empty context
abbrev pub head_or_none : Option (List ℕ) → List ℕ
head_or_none None = codes "ctx 0"
head_or_none (Some head) = head

-- the plain text of the instructions below a head, or why they have none; maps have the names of the head
abbrev pub plain_below : Option (List ℕ) → List ℕ → Result (List ℕ) SourceFault
plain_below head body = plain (index_in (maps_in (head_or_none head))) body

-- the lines of the plain text are the texts of a program's instructions, and these are its bytes
pub record IsCodeOf (lines code : List ℕ) : Type 0 where
  pub program : List Insn
  pub is : IsProgram program
  pub lines_are : statements_in lines ≡ map line_of program
  pub code_is : code ≡ text program

-- A program file with this head.
abbrev pub HasHead : Option (List ℕ) → List ℕ → Type 0
HasHead head file =
    (slots : List ℕ) × (file ≡ heading ++ (head_or_none head ++ (code_line ++ slots)))

-- The file has this head, and says a program of these bytes.
pub record IsFileOf (head : Option (List ℕ)) (code file : List ℕ) : Type 0 where
  pub begins : HasHead head file
  pub content : FileContent
  pub says : FileSays file content
  pub code_is : content.code ≡ code

-- The plain text of the instructions, the bytes of the program that it has, and a program file with the
-- text's head and these bytes.
pub record IsAssembled (bytes lines code file : List ℕ) : Type 0 where
  pub head : Option (List ℕ)
  pub body : List ℕ
  pub split : IsSplit bytes head body
  pub plain_is : plain_below head body ≡ Ok lines
  pub code_of : IsCodeOf lines code
  pub file_of : IsFileOf head code file

-- the instructions of the text have no plain text, for this fault
pub record HasNoPlain (bytes : List ℕ) (fault : SourceFault) : Type 0 where
  pub head : Option (List ℕ)
  pub body : List ℕ
  pub split : IsSplit bytes head body
  pub fault_is : plain_below head body ≡ Err fault

-- the plain text of the instructions has this fault
pub record IsFlawed (bytes : List ℕ) (fault : AsmFault) : Type 0 where
  pub head : Option (List ℕ)
  pub body : List ℕ
  pub split : IsSplit bytes head body
  pub lines : List ℕ
  pub plain_is : plain_below head body ≡ Ok lines
  pub fault_is : IsAsmFault lines fault

-- the instructions of the text have a plain text, and this is one of a program
pub record HasProgram (bytes : List ℕ) : Type 0 where
  pub head : Option (List ℕ)
  pub body : List ℕ
  pub split : IsSplit bytes head body
  pub lines : List ℕ
  pub plain_is : plain_below head body ≡ Ok lines
  pub code : List ℕ
  pub code_of : IsCodeOf lines code

-- the number of a head's last line in a program file, whose first line is the heading
abbrev pub last_line : Option (List ℕ) → ℕ
last_line head = count_by (λ b. b == 10) (head_or_none head) + 2

-- No program file has the text's head: the first wrong line of one that had it is a line of the head.
pub record HasBadHead (bytes : List ℕ) : Type 0 where
  pub head : Option (List ℕ)
  pub body : List ℕ
  pub split : IsSplit bytes head body
  pub file : List ℕ
  pub begins : HasHead head file
  pub line : ℕ
  pub fault_is : IsLoadFault file (load_faults.BadFile line)
  pub in_head : line ≤ last_line head

-- why the text's head makes no program file; that memory ran out may be said of any
abbrev pub IsHeadRefusal : List ℕ → LoadFault → Type 0
IsHeadRefusal bytes (load_faults.BadFile line) = HasBadHead bytes
IsHeadRefusal bytes load_faults.Memory = Unit {0}

-- why the bytes are no text of a program: the first of these that holds; that memory ran out may be said of any
abbrev pub IsTextFault : List ℕ → TextFault → Type 0
IsTextFault bytes (NotUtf8 line) = IsUtf8 bytes → ⊥
IsTextFault bytes (Unnamed line fault) = IsUtf8 bytes × HasNoPlain bytes fault
IsTextFault bytes (Flawed line fault) = IsUtf8 bytes × IsFlawed bytes fault × (fault ≢ asm_faults.Memory)
IsTextFault bytes (BadHead line) = IsUtf8 bytes × HasProgram bytes × HasBadHead bytes
IsTextFault bytes Memory = Unit {0}
