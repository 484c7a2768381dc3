-- How narrow the results of the operations on 64 bits are, at least.
use Rattle.std.specs.Prelude.{◌≡◌, ℕ, ◌+◌, ◌*◌, ◌/◌, ◌%◌, ◌^◌, ◌<◌, ◌≤◌}
use Rattle.scalar_domain.specs.declared.scalar.Scalar.{Scalar}
use Rattle.scalar_domain.specs.Mask.{Within, AreKnownBelow}

-- A sum: where it does not wrap, the sums of the bounds; low bits that are 0 in both stay 0, and
-- low bits that are known in both are known.
pub record Adds (a b result : Scalar) : Type 0 where
  pub least : a.greatest + b.greatest < 2 ^ 64 → a.least + b.least ≤ result.least
  pub greatest : a.greatest + b.greatest < 2 ^ 64 → result.greatest ≤ a.greatest + b.greatest
  pub zeros : (t : ℕ) → t ≤ 64 → a.may % 2 ^ t ≡ 0 → b.may % 2 ^ t ≡ 0 → result.may % 2 ^ t ≡ 0
  pub low : (t : ℕ) → t ≤ 64 → AreKnownBelow t a.may a.must → AreKnownBelow t b.may b.must
      → AreKnownBelow t result.may result.must

-- A difference: where it does not wrap, the differences of the bounds; low bits that are known in
-- both are known.
pub record Subtracts (a b result : Scalar) : Type 0 where
  pub least : b.greatest ≤ a.least → a.least ≤ result.least + b.greatest
  pub greatest : b.greatest ≤ a.least → result.greatest + b.least ≤ a.greatest
  pub low : (t : ℕ) → t ≤ 64 → AreKnownBelow t a.may a.must → AreKnownBelow t b.may b.must
      → AreKnownBelow t result.may result.must

-- The bits that a number has, too: at most that number, and 0 where it is.
pub record Masks (k : ℕ) (result : Scalar) : Type 0 where
  pub greatest : result.greatest ≤ k
  pub zeros : Within result.may k

-- A shift to the left: where no 1 is shifted out, the shifted bounds; the low bits are 0.
pub record ShiftsLeft (k : ℕ) (a result : Scalar) : Type 0 where
  pub least : a.greatest * 2 ^ k < 2 ^ 64 → a.least * 2 ^ k ≤ result.least
  pub greatest : a.greatest * 2 ^ k < 2 ^ 64 → result.greatest ≤ a.greatest * 2 ^ k
  pub zeros : result.may % 2 ^ k ≡ 0

-- A shift to the right: the shifted bounds.
pub record ShiftsRight (k : ℕ) (a result : Scalar) : Type 0 where
  pub least : a.least / 2 ^ k ≤ result.least
  pub greatest : result.greatest ≤ a.greatest / 2 ^ k
