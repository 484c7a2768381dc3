-- The names of this crate that most proofs cite, passed on from one place.
pub use Rattle.scalar_domain.specs.Constant.{le_self}
pub use Rattle.scalar_domain.specs.Floor.{KeepsEdgeFloor, KeepsFloor}
pub use Rattle.scalar_domain.specs.Mask.{Within, HasBits, AreKnownBelow}
pub use Rattle.scalar_domain.specs.Precision.{Masks, ShiftsLeft}
pub use Rattle.scalar_domain.specs.Relation.{IsBetween, Related, relation_on, AreLeft, Counts, SignedRelated, Told, ToldSigned, unsigned_condition}
pub use Rattle.scalar_domain.specs.Relation.{signed_order, TellsDifferent, LeavesSome}
pub use Rattle.scalar_domain.specs.Scalar.{Holds, IsConstant, IsNoWider, HoldsSome}
pub use Rattle.scalar_domain.specs.Unsigned.{unsigned_form}
