-- What operations give, by the kinds of their operands.
use Rattle.std.specs.Prelude.{◌≡◌, ℕ, ◌-◌, ◌^◌, ◌<◌, ◌≤◌, ◌⊎◌, Option, Some, ℤ, pos}
use Rattle.std.specs.Prelude.{◌+ℤ◌, ◌-ℤ◌, Result, Ok, IsOk}
use Rattle.std.specs.Int.{w64}
use Rattle.bpf_model.specs.declared.value.Value.{Value}
use Rattle.bpf_model.specs.declared.insn.AluOp.{AluOp}
use Rattle.bpf_model.specs.declared.insn.Operand.{Operand}
use Rattle.bpf_model.specs.declared.insn.Operand.TheVariants.{Register, Immediate}
use Rattle.bpf_model.specs.declared.opcode.Size.{Size}
use Rattle.bpf_model.specs.declared.opcode.Size.TheVariants.{Word64}
use Rattle.bpf_model.specs.declared.insn.AluOp.TheVariants.{Add, Sub, Move}
use Rattle.bpf_model.specs.Arithmetic.{signed, word, immediate}
use Rattle.bpf_model.specs.Operand.{operand_value, computed}
use Rattle.model_laws.specs.Near.{IsNear}
use Rattle.bpf_model.specs.Step.{State}
use Rattle.scalar_domain.specs.declared.scalar.Scalar.{Scalar}
use Rattle.scalar_domain.specs.Scalar.{Holds, IsConstant}
use Rattle.plan_laws.specs.Kinds.{Kind, AbsState as Known}
use Rattle.plan_laws.specs.Effects.{with_kind, IsWritten, HasNumber}
use Rattle.plan_laws.specs.Planned.{AreAlike}
use Rattle.register_kinds.specs.declared.fault.InsnFault.{InsnFault}
use Rattle.register_kinds.specs.declared.kind.RegKind.{RegKind}
use Rattle.register_kinds.specs.declared.kind.RegKind.TheVariants as kinds
use Rattle.plan_laws.specs.Describes.{Scene, Naming, HasOffset, IsOf, Describes}
use Rattle.register_kinds.specs.declared.state.AbsState.{AbsState}
use Rattle.register_kinds.specs.States.{kind_at, kind_in}
use Rattle.effects.specs.declared.moving.Way.{Way}
use Rattle.effects.specs.declared.moving.Way.TheVariants.{Forward, Back}

-- how many bytes forward a sum or a difference moves a reference
abbrev pub signed_move : Way → ℕ → ℤ
signed_move Forward n = signed w64 n
signed_move Back n = pos 0 -ℤ signed w64 n

-- a word forward or back by so many, reduced
abbrev pub shifted_word : Way → ℕ → ℕ → ℕ
shifted_word Forward x n = word w64 (pos x +ℤ pos n)
shifted_word Back x n = word w64 (pos x -ℤ pos n)

-- a word that, read as a signed number, lies within 2^29 either way
abbrev pub IsNearStep : ℕ → Type 0
IsNearStep n = (n ≤ 2 ^ 29) ⊎ (2 ^ 64 - 2 ^ 29 ≤ n)

-- Each of the offsets, moved by each of the numbers, is one of the new ones.
abbrev pub MovesOffsets : Way → Scalar → Scalar → Scalar → Type 0
MovesOffsets way s by t =
    (o : ℤ) (n : ℕ) → HasOffset s o → n < 2 ^ 64 → Holds by n → HasOffset t (o +ℤ signed_move way n)

-- the computation gives a value of the kind
abbrev pub Gives : Scene → Naming → Kind → Option Value → Type 0
Gives c ρ k o = (v : Value) × (o ≡ Some v) × IsOf c ρ k v × IsNear v

-- From operands of these kinds the operation gives a value of the third.
abbrev pub Combines : Size → AluOp → Kind → Kind → Kind → Type 0
Combines size op x y k =
    (c : Scene) (ρ : Naming) (v w : Value) → IsOf c ρ x v → IsOf c ρ y w → IsNear w →
    Gives c ρ k (computed size op v w)

-- In each described state the operation gives a value of the kind.
abbrev pub Computes : Size → AluOp → ℕ → Operand → Known → Kind → Type 0
Computes size op dst src a k =
    (c : Scene) (m : State) (d : Describes a c m) →
    Gives c d.naming k (computed size op (m.regs dst) (operand_value src m.regs))

-- what an operand holds is of the kind
abbrev pub HasValue : Known → Operand → Kind → Type 0
HasValue a src k = (c : Scene) (m : State) (d : Describes a c m) →
    IsOf c d.naming k (operand_value src m.regs)

-- the operation moves a reference that way
abbrev pub IsMove : Way → Size → AluOp → Type 0
IsMove Forward size op = (size ≡ Word64) × (op ≡ Add)
IsMove Back size op = (size ≡ Word64) × (op ≡ Sub)

-- a number is answered
abbrev pub GivesNumber : Result RegKind InsnFault → Type 0
GivesNumber r = (t : Scalar) × (r ≡ Ok (kinds.Num t))

-- The instruction is not refused, and the register becomes of the kind.
pub record SetsKind (r : Result (Unit {0}) InsnFault) (dst : ℕ) (kind : Kind) (a b : Known)
    : Type 0 where
  pub fine : IsOk r
  pub alike : AreAlike (with_kind dst kind a) b

-- A second operand that may be read is what its register holds, or the field imm with its sign.
pub record HasOperand (a : AbsState) (src : Operand) (r : Result RegKind InsnFault) : Type 0 where
  pub register : (s : ℕ) → src ≡ Register s → IsWritten (kind_at a.regs s) →
      r ≡ Ok (kind_in a.regs s)
  pub number : (imm : ℤ) → src ≡ Immediate imm →
      (t : Scalar) × (r ≡ Ok (kinds.Num t)) × IsConstant t (immediate imm)

-- What an operation reads of the register that it writes is a number: a move reads nothing of it.
abbrev pub ReadsNumber : AluOp → Known → ℕ → Type 0
ReadsNumber op a dst = (op ≡ Move) ⊎ HasNumber a dst
