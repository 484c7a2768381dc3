-- How much is known, at least, of the numbers that an operation leaves: as much as the scalar
-- domain promises of its result.
use Rattle.std.specs.Prelude.{◌≡◌, ◌⊎◌}
use Rattle.bpf_model.specs.Arithmetic.{immediate}
use Rattle.bpf_model.specs.declared.insn.AluOp.{AluOp}
use Rattle.bpf_model.specs.declared.insn.AluOp.TheVariants.{Move}
use Rattle.bpf_model.specs.declared.insn.Operand.{Operand}
use Rattle.bpf_model.specs.declared.insn.Operand.TheVariants.{Register, Immediate}
use Rattle.bpf_model.specs.declared.opcode.Size.{Size}
use Rattle.scalar_domain.specs.declared.scalar.Scalar.{Scalar}
use Rattle.scalar_domain.specs.Constant.{constant_of}
use Rattle.scalar_domain.specs.Floor.{KeepsFloor}
use Rattle.plan_laws.specs.Kinds.{Kind, Num, AbsState as Known}
use Rattle.effects.specs.Performs.{IsNumbers}

-- the kind of a second operand
abbrev pub operand_kind : Operand → Known → Kind
operand_kind (Register r) a = a.regs r
operand_kind (Immediate imm) a = Num (constant_of (immediate imm))

-- Of numbers the operation leaves numbers that are as narrow as the scalar domain promises.
abbrev pub CombinesKnown : Size → AluOp → Kind → Kind → Kind → Type 0
CombinesKnown size op x y k =
    (a b : Scalar) → x ≡ Num a → y ≡ Num b → IsNumbers (KeepsFloor size op a b) k

-- Of numbers any operation leaves numbers as narrow as the scalar domain promises; of a move the
-- first operand may be of any kind, since it is not read.
abbrev pub LeavesKnown : Size → AluOp → Kind → Kind → Kind → Type 0
LeavesKnown size op x y k =
    (a b : Scalar) → (op ≡ Move) ⊎ (x ≡ Num a) → y ≡ Num b → IsNumbers (KeepsFloor size op a b) k
