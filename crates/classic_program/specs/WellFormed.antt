-- What a checker takes (McCanne and Jacobson 1993, section 3; Linux, networking/filter.rst, and its
-- bpf_check_classic; of a system call also seccomp_check_filter).
use Rattle.std.specs.Prelude.{◌≡◌, ℕ, ◌+◌, ◌%◌, ◌^◌, ◌<◌, ◌≤◌, Bool, true, false, ◌==◌, ◌&&◌}
use Rattle.std.specs.Prelude.{nat_lt, nat_le, List, length, slice_get, Some, ◌⊎◌}
use Rattle.std.specs.List.{AllByRecursion}
use Rattle.classic_program.specs.declared.data.Data.{Data}
use Rattle.classic_program.specs.declared.data.Data.TheVariants.{Packet, Seccomp}
use Rattle.classic_program.specs.declared.insn.ClassicInsn.{ClassicInsn}
use Rattle.classic_program.specs.declared.insn.ClassicInsn.TheVariants.{Load, Store, Alu, Jump, JumpIf}
use Rattle.classic_program.specs.declared.insn.ClassicInsn.TheVariants.{ReturnNumber, ReturnA}
use Rattle.classic_program.specs.declared.insn.ClassicOp.TheVariants.{Div, Mod, ShiftLeft, ShiftRight}
use Rattle.classic_program.specs.declared.insn.Datum.{Datum}
use Rattle.classic_program.specs.declared.insn.Datum.TheVariants as datum
use Rattle.classic_program.specs.declared.insn.LoadSize.TheVariants.{Word}
use Rattle.classic_program.specs.declared.insn.ClassicOperand.{ClassicOperand}
use Rattle.classic_program.specs.declared.insn.ClassicOperand.TheVariants as operand

abbrev pub most_instructions : ℕ
most_instructions = 4096

-- what the fields of an instruction may hold
abbrev pub FitsDatum : Datum → Type 0
FitsDatum (datum.Number k) = k < 2 ^ 32
FitsDatum (datum.Memory word) = word < 16
FitsDatum datum.Length = Unit {0}
FitsDatum (datum.Bytes size at) = at < 2 ^ 32
FitsDatum (datum.Indexed size at) = at < 2 ^ 32
FitsDatum (datum.HeaderLength at) = at < 2 ^ 32

abbrev pub FitsOperand : ClassicOperand → Type 0
FitsOperand (operand.Number k) = k < 2 ^ 32
FitsOperand operand.Index = Unit {0}

abbrev pub FitsClassic : ClassicInsn → Type 0
FitsClassic (Load into datum) = FitsDatum datum
FitsClassic (Store word from) = word < 16
FitsClassic (Alu op operand) = FitsOperand operand
FitsClassic (Jump skip) = skip < 2 ^ 32
FitsClassic (JumpIf test operand if_true if_false) =
    FitsOperand operand × (if_true < 256) × (if_false < 256)
FitsClassic (ReturnNumber value) = value < 2 ^ 32
FitsClassic _ = Unit {0}

-- a quotient or a remainder by the constant 0
abbrev pub divides_by_zero : ClassicInsn → Bool
divides_by_zero (Alu Div (operand.Number k)) = k == 0
divides_by_zero (Alu Mod (operand.Number k)) = k == 0
divides_by_zero _ = false

-- a shift by a constant that is not below 32
abbrev pub shifts_too_far : ClassicInsn → Bool
shifts_too_far (Alu ShiftLeft (operand.Number k)) = nat_le 32 k
shifts_too_far (Alu ShiftRight (operand.Number k)) = nat_le 32 k
shifts_too_far _ = false

-- A system call's data are loaded by aligned words at constant offsets alone.
abbrev pub is_datum_of : Data → Datum → Bool
is_datum_of Packet datum = true
is_datum_of Seccomp (datum.Bytes Word at) = nat_lt at 64 && (at % 4 == 0)
is_datum_of Seccomp (datum.Bytes _ at) = false
is_datum_of Seccomp (datum.Indexed size at) = false
is_datum_of Seccomp (datum.HeaderLength at) = false
is_datum_of Seccomp _ = true

abbrev pub is_of : Data → ClassicInsn → Bool
is_of d (Load into datum) = is_datum_of d datum
is_of d i = true

-- A policy has no remainders: seccomp_check_filter has all other operations alone.
abbrev pub is_policy_remainder : Data → ClassicInsn → Bool
is_policy_remainder Seccomp (Alu Mod operand) = true
is_policy_remainder d i = false

-- how many of the instructions behind it an instruction may skip; a return leads nowhere
abbrev pub MaySkip : ClassicInsn → ℕ → Type 0
MaySkip (Jump skip) s = s ≡ skip
MaySkip (JumpIf test operand if_true if_false) s = (s ≡ if_true) ⊎ (s ≡ if_false)
MaySkip (ReturnNumber value) s = ⊥
MaySkip ReturnA s = ⊥
MaySkip _ s = s ≡ 0

-- Each instruction leads to one of the program: jumps lead inside, and the last one is a return.
abbrev pub LeadsInside : List ClassicInsn → Type 0
LeadsInside program = (k s : ℕ) (i : ClassicInsn) → slice_get program k ≡ Some i → MaySkip i s →
    k + 1 + s < length program

abbrev pub stores_to : ℕ → ClassicInsn → Bool
stores_to w (Store word from) = word == w
stores_to w _ = false

abbrev pub reads_from : ℕ → ClassicInsn → Bool
reads_from w (Load into (datum.Memory word)) = word == w
reads_from w _ = false

-- A path leads from the first instruction to this one, past none that stops it.
pub data Reaches (program : List ClassicInsn) (stops : ClassicInsn → Bool) : ℕ → Type 0 where
  reaches_first : Reaches program stops 0
  reaches_next : (k s : ℕ) (i : ClassicInsn) → Reaches program stops k →
      slice_get program k ≡ Some i → stops i ≡ false → MaySkip i s →
      Reaches program stops (k + 1 + s)

-- No word of memory is read on a path on which it isn't stored.
abbrev pub ReadsStored : List ClassicInsn → Type 0
ReadsStored program = (w k : ℕ) (i : ClassicInsn) → slice_get program k ≡ Some i →
    reads_from w i ≡ true → Reaches program (stores_to w) k → ⊥

pub record IsWellFormed (d : Data) (program : List ClassicInsn) : Type 0 where
  pub some : 1 ≤ length program
  pub limit : length program ≤ most_instructions
  pub fits : AllByRecursion FitsClassic program
  pub divisors : AllByRecursion (λ i. divides_by_zero i ≡ false) program
  pub shifts : AllByRecursion (λ i. shifts_too_far i ≡ false) program
  pub loads : AllByRecursion (λ i. is_of d i ≡ true) program
  pub remainders : AllByRecursion (λ i. is_policy_remainder d i ≡ false) program
  pub inside : LeadsInside program
  pub stored : ReadsStored program

-- a program, and of which data it is
pub record Checked : Type 0 where
  pub kind : Data
  pub instructions : List ClassicInsn

abbrev pub checked : Data → List ClassicInsn → Checked
checked kind instructions = record { kind = kind; instructions = instructions }
