-- Why a program isn't taken.
use Rattle.std.specs.Prelude.{◌≡◌, ℕ, ◌+◌, ◌<◌, ◌≤◌, List, length, slice_get, Option, Some, None, true, false}
use Rattle.classic_program.specs.declared.data.Data.{Data}
use Rattle.classic_program.specs.declared.fault.ClassicFault.{ClassicFault}
use Rattle.classic_program.specs.declared.fault.ClassicFault.TheVariants as check
use Rattle.classic_program.specs.declared.decoding.DecodeFlaw.{DecodeFlaw}
use Rattle.classic_program.specs.declared.decoding.DecodeFlaw.TheVariants as flaw
use Rattle.classic_program.specs.declared.insn.ClassicInsn.{ClassicInsn}
use Rattle.classic_program.specs.declared.opcode.ClassicOpcode.{ClassicOpcode}
use Rattle.classic_program.specs.declared.sock_filter.SockFilter.{SockFilter}
use Rattle.classic_program.specs.Opcode.{opcode_number, IsInsnOf, AreInsnsOf}
use Rattle.classic_program.specs.WellFormed.{MaySkip, Reaches, divides_by_zero, shifts_too_far}
use Rattle.classic_program.specs.WellFormed.{is_of, is_policy_remainder, reads_from, stores_to, most_instructions}

-- the code stands for nothing; or there is no such word of memory
abbrev pub IsInsnFlaw : SockFilter → DecodeFlaw → Type 0
IsInsnFlaw f flaw.Opcode = (o : ClassicOpcode) → opcode_number o ≡ f.code → ⊥
IsInsnFlaw f flaw.Word =
    (o : ClassicOpcode) × (opcode_number o ≡ f.code) × ((i : ClassicInsn) → IsInsnOf f i → ⊥)

abbrev pub IsDecodeFault : List SockFilter → ClassicFault → Type 0
IsDecodeFault filter (check.UnknownOpcode k) =
    (f : SockFilter) × (slice_get filter k ≡ Some f) × IsInsnFlaw f flaw.Opcode
IsDecodeFault filter (check.BadWord k) =
    (f : SockFilter) × (slice_get filter k ≡ Some f) × IsInsnFlaw f flaw.Word
IsDecodeFault filter check.Memory = Unit {0}
IsDecodeFault filter fault = ⊥

-- what is wrong with an instruction of this index, of so many
abbrev pub IsFlawAt : Data → ℕ → ℕ → ClassicInsn → ClassicFault → Type 0
IsFlawAt d count index i (check.DivisionByZero k) = (k ≡ index) × (divides_by_zero i ≡ true)
IsFlawAt d count index i (check.BadShift k) = (k ≡ index) × (shifts_too_far i ≡ true)
IsFlawAt d count index i (check.NotOfSeccomp k) = (k ≡ index) × (is_of d i ≡ false)
IsFlawAt d count index i (check.PolicyRemainder k) = (k ≡ index) × (is_policy_remainder d i ≡ true)
IsFlawAt d count index i (check.BadJump k) =
    (k ≡ index) × (s : ℕ) × MaySkip i s × (count ≤ index + 1 + s)
IsFlawAt d count index i fault = ⊥

pub record IsSoundAt (d : Data) (count index : ℕ) (i : ClassicInsn) : Type 0 where
  pub divisor : divides_by_zero i ≡ false
  pub shift : shifts_too_far i ≡ false
  pub known : is_of d i ≡ true
  pub remainder : is_policy_remainder d i ≡ false
  pub inside : (s : ℕ) → MaySkip i s → index + 1 + s < count

-- a word that may be read before it is stored
pub record IsUnstored (program : List ClassicInsn) (k : ℕ) : Type 0 where
  pub word : ℕ
  pub insn : ClassicInsn
  pub there : slice_get program k ≡ Some insn
  pub reads : reads_from word insn ≡ true
  pub reached : Reaches program (stores_to word) k

abbrev pub IsProgramFlaw : Data → List ClassicInsn → ClassicFault → Type 0
IsProgramFlaw d program (check.UnwrittenWord k) = IsUnstored program k
IsProgramFlaw d program check.Memory = Unit {0}
IsProgramFlaw d program fault =
    (k : ℕ) × (i : ClassicInsn) × (slice_get program k ≡ Some i)
    × IsFlawAt d (length program) k i fault

abbrev pub IsCheckFault : Data → List SockFilter → ClassicFault → Type 0
IsCheckFault d filter check.Empty = length filter ≡ 0
IsCheckFault d filter check.TooLong = most_instructions < length filter
IsCheckFault d filter check.Memory = Unit {0}
IsCheckFault d filter (check.UnknownOpcode k) = IsDecodeFault filter (check.UnknownOpcode k)
IsCheckFault d filter (check.BadWord k) = IsDecodeFault filter (check.BadWord k)
IsCheckFault d filter fault =
    (program : List ClassicInsn) × AreInsnsOf filter program × IsProgramFlaw d program fault

abbrev pub classic_fault_number : ClassicFault → ℕ
classic_fault_number check.Empty = 103
classic_fault_number check.TooLong = 104
classic_fault_number (check.UnknownOpcode k) = 105
classic_fault_number (check.BadWord k) = 106
classic_fault_number (check.DivisionByZero k) = 107
classic_fault_number (check.BadShift k) = 108
classic_fault_number (check.BadJump k) = 109
classic_fault_number (check.NotOfSeccomp k) = 110
classic_fault_number (check.UnwrittenWord k) = 111
classic_fault_number (check.PolicyRemainder k) = 114
classic_fault_number check.Memory = 13

abbrev pub classic_fault_instruction : ClassicFault → Option ℕ
classic_fault_instruction (check.UnknownOpcode k) = Some k
classic_fault_instruction (check.BadWord k) = Some k
classic_fault_instruction (check.DivisionByZero k) = Some k
classic_fault_instruction (check.BadShift k) = Some k
classic_fault_instruction (check.BadJump k) = Some k
classic_fault_instruction (check.NotOfSeccomp k) = Some k
classic_fault_instruction (check.UnwrittenWord k) = Some k
classic_fault_instruction (check.PolicyRemainder k) = Some k
classic_fault_instruction fault = None
