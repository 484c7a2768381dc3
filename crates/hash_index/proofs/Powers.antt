-- The least power of two that is no less than a number.
use Rattle.bpf_model.proofs.Prelude.{◌≡◌, ℕ, zero, suc, ◌*◌, ◌/◌, ◌<◌, ◌≤◌, ◌^◌, inl, inr, arith, max, one-le-pow, pow-suc, pow-le-pow_right, cases_lt}
use Rattle.hash_index.specs.Buckets.{IsLeastPowerOfTwo}

-- a power of two whose half is too small is the least
pub no_lesser : (n p j k : ℕ) → p ≡ 2 ^ j → p / 2 < max 1 n → n ≤ 2 ^ k → p ≤ 2 ^ k
no_lesser n p zero k e h m = let one : 1 ≤ 2 ^ k = one-le-pow k 2 (omega arith) in omega (arith, e)
no_lesser n p (suc j) k e h m =
    let double : 2 ^ suc j ≡ 2 ^ j * 2 = pow-suc 2 j in
    let one : 1 ≤ 2 ^ k = one-le-pow k 2 (omega arith) in
    elim (cases_lt j k) [
      | inl l ↦ let more : 2 ^ suc j ≤ 2 ^ k = pow-le-pow_right (omega arith) (omega (arith, l)) in omega (arith, e)
      | inr l ↦ let less : 2 ^ k ≤ 2 ^ j = pow-le-pow_right (omega arith) l in absurd (omega (arith, e, double, less, h, m, one))
    ]

pub some_power : (n p : ℕ) → IsLeastPowerOfTwo n p → 0 < p
some_power n p h = let one : 1 ≤ 2 ^ h.power.0 = one-le-pow h.power.0 2 (omega arith) in omega (arith, h.power.1)
