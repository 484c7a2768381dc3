-- Bits of numbers.
use Rattle.std.specs.Prelude.{◌≡◌, ℕ, ◌%◌, ◌^◌, bit_and}

-- Each bit that is one in the number is one in the mask.
abbrev pub Within : ℕ → ℕ → Type 0
Within n mask = bit_and n mask ≡ n

-- The ones of the number stand in the one mask, and it has those of the other.
pub record HasBits (may must n : ℕ) : Type 0 where
  pub zeros : Within n may
  pub ones : Within must n

-- By two such masks all bits below this one are known.
abbrev pub AreKnownBelow : ℕ → ℕ → ℕ → Type 0
AreKnownBelow t may must = may % 2 ^ t ≡ must % 2 ^ t
