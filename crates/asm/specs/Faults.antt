-- What a text stands for, and why it stands for no program.
use Rattle.std.specs.Prelude.{ℕ, ◌≡◌, ◌+◌, ◌<◌, ◌==◌, Bool, true, false, not, List, [], ◌∷◌, ◌++◌}
use Rattle.std.specs.Prelude.{length, map, filter, Option, Some, None}
use Rattle.std.specs.List.{AllByRecursion, slice_split}
use Rattle.bpf_model.specs.declared.insn.Insn.{Insn}
use Rattle.bpf_model.specs.declared.limits.TheConstants.{MAX_SLOTS}
use Rattle.bpf_model.specs.Spelling.{FitsInsn}
use Rattle.bpf_model.specs.Places.{slot_total}
use Rattle.disasm.specs.Text.{line_of}
use Rattle.asm.specs.Grammar.{IsFormedLine}
use Rattle.asm.specs.declared.fault.LineFlaw.{LineFlaw}
use Rattle.asm.specs.declared.fault.LineFlaw.TheVariants as flaw
use Rattle.asm.specs.declared.fault.AsmFault.{AsmFault}
use Rattle.asm.specs.declared.fault.AsmFault.TheVariants as faults

-- the lines of a text, parted by line feeds, which are bytes 10
abbrev pub lines_in : List ℕ → List (List ℕ)
lines_in text = slice_split (λ b. b == 10) text

-- an empty line, and one that begins with `;`, which is byte 59
abbrev pub is_comment : List ℕ → Bool
is_comment [] = true
is_comment (b ∷ line) = b == 59

-- the lines that stand for instructions
abbrev pub statements_in : List ℕ → List (List ℕ)
statements_in text = filter (λ line. not (is_comment line)) (lines_in text)

-- the line is the text of some instruction
pub record IsInsnLine (line : List ℕ) : Type 0 where
  pub instruction : Insn
  pub fits : FitsInsn instruction
  pub text : line ≡ line_of instruction

-- a line of no form; and one of a form, with something in it out of its range
abbrev pub IsLineFlaw : List ℕ → LineFlaw → Type 0
IsLineFlaw line flaw.NoForm = ¬ (IsFormedLine line)
IsLineFlaw line flaw.OutOfRange = IsFormedLine line × ¬ (IsInsnLine line)

-- a comment, or a line of some instruction
abbrev pub IsSoundLine : List ℕ → Type 0
IsSoundLine line = is_comment line ≡ false → IsInsnLine line

-- line n, counted from 1, is the first with a flaw
pub record IsFirstLineFlaw (text : List ℕ) (f : LineFlaw) (n : ℕ) : Type 0 where
  pub front : List (List ℕ)
  pub line : List ℕ
  pub rest : List (List ℕ)
  pub parts : lines_in text ≡ front ++ line ∷ rest
  pub number : n ≡ length front + 1
  pub sound : AllByRecursion IsSoundLine front
  pub statement : is_comment line ≡ false
  pub flawed : IsLineFlaw line f

-- each line is the text of an instruction, and they take more than MAX_SLOTS slots
pub record IsTooLong (text : List ℕ) : Type 0 where
  pub instructions : List Insn
  pub fits : AllByRecursion FitsInsn instructions
  pub lines : statements_in text ≡ map line_of instructions
  pub long : MAX_SLOTS < slot_total instructions

-- Why the text is no program; that memory ran out may be said of any.
abbrev pub IsAsmFault : List ℕ → AsmFault → Type 0
IsAsmFault text (faults.BadLine n) = IsFirstLineFlaw text flaw.NoForm n
IsAsmFault text (faults.BadOperand n) = IsFirstLineFlaw text flaw.OutOfRange n
IsAsmFault text faults.TooLong = IsTooLong text
IsAsmFault text faults.Empty = statements_in text ≡ []
IsAsmFault text faults.Memory = Unit {0}

-- the numbers by which faults are known (docs/REFUSALS.md)
abbrev pub asm_fault_number : AsmFault → ℕ
asm_fault_number (faults.BadLine n) = 14
asm_fault_number (faults.BadOperand n) = 15
asm_fault_number faults.TooLong = 3
asm_fault_number faults.Empty = 2
asm_fault_number faults.Memory = 13

-- the line that is at fault, counted from 1
abbrev pub asm_fault_line : AsmFault → Option ℕ
asm_fault_line (faults.BadLine n) = Some n
asm_fault_line (faults.BadOperand n) = Some n
asm_fault_line _ = None
