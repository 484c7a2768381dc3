-- Where labels lead, in a program whose lines a plain text has. Lines are counted from 0.
use Rattle.std.specs.Prelude.{◌≡◌, ℕ, not, Bool, true, List, [], ◌∷◌, ◌++◌, codes, take, count_by, sum_by, Some, slice_get}
use Rattle.bpf_model.specs.declared.insn.Insn.{Insn}
use Rattle.bpf_model.specs.Step.{insn_at}
use Rattle.bpf_model.specs.Places.{slot_total}
use Rattle.bpf_model.specs.Graph.{JumpsTo}
use Rattle.disasm.specs.Text.{line_of}
use Rattle.asm_source.specs.Tokens.{lines_of, tokens_of}
use Rattle.asm_source.specs.Names.{instruction_in, slots_of}
use Rattle.asm_source.specs.Plain.{role_of, is_end}
use Rattle.asm_source.specs.declared.site.Role.TheVariants as role

-- an instruction stands in the line
abbrev pub has_instruction : List ℕ → Bool
has_instruction line = not (is_end (instruction_in (tokens_of line)))

-- how many instructions stand in the lines above line n
abbrev pub instructions_above : List ℕ → ℕ → ℕ
instructions_above source n = count_by has_instruction (take n (lines_of source))

-- The place of line n: the slots of the instructions above it. There the first instruction begins that
-- stands in the line or below it.
abbrev pub place_of : List ℕ → List Insn → ℕ → ℕ
place_of source program n = slot_total (take (instructions_above source n) program)

-- line n begins with the label
pub record HasLabel (source : List ℕ) (n : ℕ) (name : List ℕ) : Type 0 where
  pub line : List ℕ
  pub line_is : slice_get (lines_of source) n ≡ Some line
  pub rest : List (List ℕ)
  pub tokens : tokens_of line ≡ (name ++ codes ":") ∷ rest

-- line n has a jump, and the name is its last word
pub record JumpsByName (source : List ℕ) (n : ℕ) (name : List ℕ) : Type 0 where
  pub line : List ℕ
  pub line_is : slice_get (lines_of source) n ≡ Some line
  pub jump : List ℕ
  pub jump_is : role_of jump ≡ role.Jump
  pub front : List (List ℕ)
  pub tokens : instruction_in (tokens_of line) ≡ jump ∷ (front ++ name ∷ [])

-- the program has at the place of one line a jump to that of another
pub record LeadsToLine (source : List ℕ) (program : List Insn) (from to : ℕ) : Type 0 where
  pub jump : Insn
  pub jump_is : insn_at program (place_of source program from) ≡ Some jump
  pub leads : JumpsTo jump (place_of source program from) (place_of source program to)

-- line n of the text is that of the instruction at the place of line n of the source
pub record StandsAtLine (source text : List ℕ) (program : List Insn) (n : ℕ) : Type 0 where
  pub instruction : Insn
  pub line_is : slice_get (lines_of text) n ≡ Some (line_of instruction)
  pub is_at : insn_at program (place_of source program n) ≡ Some instruction

-- how many slots the instructions in the lines above line n take
abbrev pub slots_above : List ℕ → ℕ → ℕ
slots_above source n = sum_by (λ line. slots_of (instruction_in (tokens_of line))) (take n (lines_of source))

-- the instruction of line n begins at this slot
pub record BeginsAt (source : List ℕ) (n : ℕ) (slot : ℕ) : Type 0 where
  pub line : List ℕ
  pub line_is : slice_get (lines_of source) n ≡ Some line
  pub instruction : has_instruction line ≡ true
  pub slot_is : slots_above source n ≡ slot
