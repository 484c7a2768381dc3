-- What a scalar says of a number, and of another scalar.
use Rattle.std.specs.Prelude.{◌≡◌, ℕ, ◌≤◌}
use Rattle.scalar_domain.specs.declared.scalar.Scalar.{Scalar}
use Rattle.scalar_domain.specs.Mask.{Within}

-- The number is one of those that the scalar stands for.
pub record Holds (s : Scalar) (n : ℕ) : Type 0 where
  pub least : s.least ≤ n
  pub greatest : n ≤ s.greatest
  pub zeros : Within n s.may
  pub ones : Within s.must n

-- The scalar stands for some number: by bounds and bits together one is left.
pub record HoldsSome (s : Scalar) : Type 0 where
  pub number : ℕ
  pub held : Holds s number

-- The scalar stands for this number alone.
pub record IsConstant (s : Scalar) (n : ℕ) : Type 0 where
  pub least : s.least ≡ n
  pub greatest : s.greatest ≡ n
  pub zeros : Within n s.may
  pub ones : Within s.must n

-- The bounds of the one lie within those of the other, and each bit that is known in the other is
-- known in it.
pub record IsNoWider (s wide : Scalar) : Type 0 where
  pub least : wide.least ≤ s.least
  pub greatest : s.greatest ≤ wide.greatest
  pub zeros : Within s.may wide.may
  pub ones : Within wide.must s.must
