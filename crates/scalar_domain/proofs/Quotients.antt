-- Quotients by a positive divisor, and their order.
use Rattle.bpf_model.proofs.Prelude.{◌≡◌, ℕ, zero, suc, ◌/◌, ◌<◌, ◌≤◌, ap, cond, arith, ◌==◌, eqb-suc-zero}
use Rattle.std.proofs.lemmas.Nat.{le-div}
use Rattle.std.proofs.Math.Nat.{div-mul-le_self, mul-le-mul_left}

pub when_positive : {A : Type 0} (y : ℕ) (a b : A) → 0 < y → cond (y == 0) a b ≡ b
when_positive zero a b p = absurd (omega (arith, p))
when_positive (suc y) a b p = ap (λ t. cond t a b) (eqb-suc-zero y)

pub div_mono : (x y g l : ℕ) → x ≤ g → 0 < l → l ≤ y → x / y ≤ g / l
div_mono x y g l h p k = le-div (x / y) g l p (omega (arith, mul-le-mul_left (x / y) k, div-mul-le_self x y))
