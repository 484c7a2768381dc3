-- How narrow the results are, at least: what `apply`, `unary`, `refine` and `loaded` promise.
use Rattle.std.specs.Prelude.{◌≡◌, ◌≢◌, ℕ, ◌<◌, ◌^◌, Bool}
use Rattle.std.specs.Int.{w64}
use mir.Val.{bits}
use Rattle.bpf_model.specs.Arithmetic.{alu, unary, holds, swapped_width}
use Rattle.bpf_model.specs.Access.{byte_count}
use Rattle.bpf_model.specs.declared.insn.AluOp.{AluOp}
use Rattle.bpf_model.specs.declared.insn.AluOp.TheVariants.{Add, Sub, And, ShiftLeft, ShiftRight}
use Rattle.bpf_model.specs.declared.insn.AluOp.TheVariants.{Mod, Move}
use Rattle.bpf_model.specs.declared.insn.UnaryOp.{UnaryOp}
use Rattle.bpf_model.specs.declared.insn.UnaryOp.TheVariants.{Negate, ByteSwap, MoveSigned}
use Rattle.bpf_model.specs.declared.insn.SignExtension.TheVariants.{ByteTo32, ShortTo32}
use Rattle.bpf_model.specs.declared.opcode.Condition.{Condition}
use Rattle.bpf_model.specs.declared.opcode.Size.{Size}
use Rattle.bpf_model.specs.declared.opcode.Width.{Width}
use Rattle.bpf_model.specs.declared.opcode.Size.TheVariants.{Word32, Word64}
use Rattle.scalar_domain.specs.declared.scalar.Scalar.{Scalar}
use Rattle.scalar_domain.specs.Scalar.{Holds, IsConstant, IsNoWider}
use Rattle.scalar_domain.specs.Precision.{Adds, Subtracts, Masks, ShiftsLeft, ShiftsRight}
use Rattle.scalar_domain.specs.Relation.{MovesBounds, GoesAlong, TellsDifferent, IsNoBound}

-- A load without sign gives a number of so many bytes.
abbrev pub KeepsLoadFloor : Width → Scalar → Type 0
KeepsLoadFloor width result = result.greatest < 256 ^ byte_count width

-- What an operation on 64 bits gives is at least this narrow.
pub record KeepsWideFloor (op : AluOp) (a b result : Scalar) : Type 0 where
  pub sum : op ≡ Add → Adds a b result
  pub difference : op ≡ Sub → Subtracts a b result
  pub mask : (k : ℕ) → op ≡ And → IsConstant b k → Masks k result
  pub shift_left : (k : ℕ) → op ≡ ShiftLeft → IsConstant b k → k < 64 → ShiftsLeft k a result
  pub shift_right : (k : ℕ) → op ≡ ShiftRight → IsConstant b k → k < 64 → ShiftsRight k a result
  pub remainder : (k : ℕ) → op ≡ Mod → IsConstant b k → 0 < k → result.greatest < k
  pub move : op ≡ Move → IsNoWider result b

-- What an operation gives is at least this narrow; on 32 bits, it is below 2^32.
pub record KeepsFloor (size : Size) (op : AluOp) (a b result : Scalar) : Type 0 where
  pub constant : (x y : ℕ) → IsConstant a x → IsConstant b y → IsConstant result (alu size op x y)
  pub narrow : size ≡ Word32 → result.greatest < 2 ^ 32
  pub wide : size ≡ Word64 → KeepsWideFloor op a b result

-- How many bits the result of an operation of one operand has; a byte swap of 64 bits has them all,
-- whatever its class.
abbrev pub result_bits : UnaryOp → ℕ
result_bits (Negate Word32) = 32
result_bits (Negate Word64) = 64
result_bits (ByteSwap order width) = bits (swapped_width width)
result_bits (MoveSigned ByteTo32 src) = 32
result_bits (MoveSigned ShortTo32 src) = 32
result_bits (MoveSigned extension src) = 64

-- What an operation of one operand gives is at least this narrow.
pub record KeepsUnaryFloor (op : UnaryOp) (a result : Scalar) : Type 0 where
  pub constant : (x : ℕ) → IsConstant a x → IsConstant result (unary op x)
  pub narrow : result.greatest < 2 ^ result_bits op

-- What remains of both sides of a comparison, on one of its edges, is at least this narrow. By a
-- constant the unsigned orders and equality move the left side's bounds, where some number of that
-- side goes along the edge. Where some number differs from a constant, the constant is no bound.
pub record KeepsEdgeFloor (size : Size) (c : Condition) (taken : Bool) (a b left right : Scalar)
    : Type 0 where
  pub no_wider_left : IsNoWider left a
  pub no_wider_right : IsNoWider right b
  pub bounds : (k x : ℕ) → size ≡ Word64 → MovesBounds c taken → IsConstant b k → Holds a x
      → holds w64 c x k ≡ taken → GoesAlong c taken left k
  pub apart : (k x : ℕ) → size ≡ Word64 → TellsDifferent c taken → IsConstant b k → Holds a x
      → x ≢ k → IsNoBound left k
