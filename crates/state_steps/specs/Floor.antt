-- How much is known, at least, of the numbers that an instruction writes or compares: as much as
-- the scalar domain promises.
use Rattle.std.specs.Prelude.{◌≡◌, ℕ, ◌≤◌, ◌⊎◌, true, false, Option, IfSome}
use Rattle.bpf_model.specs.Operand.{unary_source}
use Rattle.model_laws.specs.Plain.{Names}
use Rattle.bpf_model.specs.declared.insn.Insn.{Insn}
use Rattle.bpf_model.specs.declared.insn.Insn.TheVariants.{Alu, Unary, LoadNumber, JumpIf, Load}
use Rattle.bpf_model.specs.declared.insn.Insn.TheVariants.{LoadSigned, LoadMap, Call}
use Rattle.scalar_domain.specs.declared.scalar.Scalar.{Scalar}
use Rattle.scalar_domain.specs.Scalar.{IsConstant}
use Rattle.scalar_domain.specs.Floor.{KeepsUnaryFloor}
use Rattle.plan_laws.specs.Kinds.{Num, AbsState as Known}
use Rattle.plan_laws.specs.Effects.{HasNumber}
use Rattle.effects.specs.Accesses.{LoadsKnown}
use Rattle.effects.specs.Performs.{IsNumbers}
use Rattle.effects.specs.Floor.{operand_kind, LeavesKnown}
use Rattle.effects.specs.Narrowing.{NarrowsKnown}
use Rattle.effects.specs.Calls.{KeepsNumbersIn}

-- From the first state the instruction leads to the second, and to the third where it is a jump
-- that is taken. Operations of numbers leave numbers as narrow as the scalar domain promises; a
-- wide instruction leaves its number; a load without sign gives a number of its width, or the
-- reference whose parts it reads, and one that extends the sign a number; and on both edges of a
-- comparison of numbers these are as narrow as the scalar domain promises.
abbrev pub KeepsInsnFloor : Insn → Known → Known → Option Known → Type 0
KeepsInsnFloor (Alu op size dst src) a b taken =
    LeavesKnown size op (a.regs dst) (operand_kind src a) (b.regs dst)
KeepsInsnFloor (Unary op dst) a b taken =
    (s : Scalar) → a.regs (unary_source op dst) ≡ Num s →
    IsNumbers (KeepsUnaryFloor op s) (b.regs dst)
KeepsInsnFloor (LoadNumber dst n) a b taken = IsNumbers (λ s. IsConstant s n) (b.regs dst)
KeepsInsnFloor (Load width dst src offset) a b taken = LoadsKnown width (b.regs dst)
KeepsInsnFloor (LoadSigned width dst src offset) a b taken = HasNumber b dst
KeepsInsnFloor (JumpIf condition size dst src offset) a b taken =
    NarrowsKnown size condition false dst src a b
    × IfSome taken (NarrowsKnown size condition true dst src a)
KeepsInsnFloor _ a b taken = Unit {0}

-- The registers that the instruction writes, or whose numbers it compares. A call leaves r6 to r9.
abbrev pub TouchesRegister : Insn → ℕ → Type 0
TouchesRegister (Alu op size dst src) r = r ≡ dst
TouchesRegister (Unary op dst) r = r ≡ dst
TouchesRegister (LoadNumber dst n) r = r ≡ dst
TouchesRegister (LoadMap dst map) r = r ≡ dst
TouchesRegister (Load width dst src offset) r = r ≡ dst
TouchesRegister (LoadSigned width dst src offset) r = r ≡ dst
TouchesRegister (JumpIf condition size dst src offset) r = (r ≡ dst) ⊎ Names src r
TouchesRegister (Call kind imm) r = r ≤ 5
TouchesRegister _ r = ⊥

-- Numbers in the other registers stay as they are.
abbrev pub KeepsNumbers : Insn → Known → Known → Type 0
KeepsNumbers i a b = KeepsNumbersIn (λ r. TouchesRegister i r → ⊥) a b
