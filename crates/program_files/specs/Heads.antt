-- How a program file begins, and what is written of that and of a program.
use Rattle.std.specs.Prelude.{◌≡◌, ℕ, ◌+◌, ◌≤◌, ◌⊎◌, ◌==◌, List, ◌∷◌, ◌++◌, [], codes, count_by, refl}
use Rattle.std.specs.Coded.{Coded, code_by, coded×, coded_ℕ}
use Rattle.std.specs.Fmt.{decimal}
use Rattle.std.specs.List.{flat_map}
use Rattle.hex.specs.Hex.{encode_lower}
use Rattle.bpf_model.specs.declared.insn.Insn.{Insn}
use Rattle.bpf_model.specs.declared.slot.Slot.{Slot}
use Rattle.bpf_model.specs.Codes.{numbers_code}
use Rattle.bpf_model.specs.Spelling.{slot_bytes, slots_of, text}
use Rattle.maps.specs.Registry.{RegistryView, no_maps, registry_code}
use Rattle.script_stream.specs.Lines.{lines_of}
use Rattle.program_files.specs.ProgramFile.{FileContent, IsContextLine, AddMaps, IsProgramFile, IsWrongFile, heading}
use Rattle.program_files.specs.declared.loader.fault.LoadFault.{LoadFault}
use Rattle.program_files.specs.declared.loader.fault.LoadFault.TheVariants.{BadFile, Memory}

-- the lines of a context and of maps, each with its line feed, and what they say
pub record HeadView : Type 0 where
  pub text : List ℕ
  pub ctx_len : ℕ
  pub registry : RegistryView

abbrev pub head_code : Coded HeadView
head_code = code_by (List ℕ × (ℕ × RegistryView))
    (coded× numbers_code (coded× coded_ℕ registry_code))
    (λ h. (h.text, (h.ctx_len, h.registry)))
    (λ p. record { text = p.0; ctx_len = p.1.0; registry = p.1.1 })
    (λ _. refl)

-- The lines are a context and maps.
pub record AreHeadLines (lines : List (List ℕ)) (ctx_len : ℕ) (registry : RegistryView)
    : Type 0 where
  pub first : List ℕ
  pub map_lines : List (List ℕ)
  pub parts : lines ≡ first ∷ map_lines
  pub context_is : IsContextLine first ctx_len
  pub maps : AddMaps no_maps map_lines registry

-- The text's last line ends too, and its lines are this context and these maps.
pub record IsHead (text : List ℕ) (ctx_len : ℕ) (registry : RegistryView) : Type 0 where
  pub front : List ℕ
  pub ends : text ≡ front ++ 10 ∷ []
  pub lines : AreHeadLines (lines_of text) ctx_len registry

-- `ctx N` alone
abbrev pub context_head : ℕ → HeadView
context_head n = record { text = codes "ctx " ++ (decimal n ++ codes "\n"); ctx_len = n; registry = no_maps }

-- Each file that begins with these lines is wrong at line n, counted from 1 with the heading, which is one of them.
abbrev pub IsWrongHead : List ℕ → ℕ → Type 0
IsWrongHead lines n =
    ((rest : List ℕ) → IsWrongFile (heading ++ (lines ++ 10 ∷ rest)) n)
    × (n ≤ count_by (λ b. b == 10) lines + 2)

-- One of the lines is `code`, so that with the heading they are a program file.
abbrev pub IsWholeFile : List ℕ → Type 0
IsWholeFile lines = (content : FileContent) × IsProgramFile (lines_of (lines ++ 10 ∷ [])) content

-- why lines are no context and maps; that memory ran out may be said of any
abbrev pub IsHeadFault : List ℕ → LoadFault → Type 0
IsHeadFault lines (BadFile n) = IsWrongHead lines n ⊎ IsWholeFile lines
IsHeadFault lines Memory = Unit {0}

-- the line of a slot: two hexadecimal digits for each of its eight bytes
abbrev pub slot_line : Slot → List ℕ
slot_line s = encode_lower (slot_bytes s) ++ 10 ∷ []

-- the slots of a program, a line each
abbrev pub slot_lines : List Insn → List ℕ
slot_lines program = flat_map slot_line (flat_map slots_of program)

-- What is written: the heading, the head's lines, `code`, and the program's slots.
abbrev pub file_text : List ℕ → List Insn → List ℕ
file_text head program = heading ++ (head ++ (codes "code\n" ++ slot_lines program))

-- what that says
abbrev pub file_content : HeadView → List Insn → FileContent
file_content h program =
    record { ctx_len = h.ctx_len; registry = h.registry; code = text program }
