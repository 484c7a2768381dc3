-- Laws of the definitions of arithmetic: what an operation of one operand leaves is a word of 64 bits, and what one of two numbers computes is a number.
use Rattle.bpf_model.proofs.Prelude.{◌≡◌, ℕ, ◌^◌, ◌<◌, refl, Some, alu, unary, computed}
use Rattle.model_laws.proofs.Prelude.{AluOp, Add, UnaryOp, Negate, ByteSwap, MoveSigned, Size, Word32, Word64, Number}
use Rattle.scalar_domain.proofs.Words.{negated_lt, moved_signed_lt}
use Rattle.scalar_domain.proofs.Swaps.{reordered_lt}

pub unary_lt : (op : UnaryOp) (x : ℕ) → unary op x < 2 ^ 64
unary_lt (Negate size) x = negated_lt size x
unary_lt (ByteSwap order width) x = reordered_lt order width x
unary_lt (MoveSigned extension src) x = moved_signed_lt extension x

-- an operation of two numbers
pub computed_numbers : (size : Size) (op : AluOp) (a b : ℕ) → computed size op (Number a) (Number b) ≡ Some (Number (alu size op a b))
computed_numbers Word64 Add a b = refl
computed_numbers Word32 Add a b = refl
computed_numbers size op a b = refl
