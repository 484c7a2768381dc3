-- The names of this crate that most proofs cite, passed on from one place.
pub use Rattle.register_kinds.specs.Changes.{learnt_kind, learnt, learnt_class}
pub use Rattle.register_kinds.specs.JoinTable.{JoinsKind, PairsGrow, pair_of, JoinsCell, IsTable}
pub use Rattle.register_kinds.specs.Joined.{joined_class, IsHull, IsJoinedKind}
pub use Rattle.register_kinds.specs.Pairs.{AreBelow, IsBelow}
pub use Rattle.register_kinds.specs.States.{state_of, kind_of, kind_in, class_in, kind_at, is_pointer, cell_of, cell_at}
pub use Rattle.register_kinds.specs.Tests.{AreAll}
