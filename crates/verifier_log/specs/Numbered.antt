-- States that are kept while a log is written.
use Rattle.std.specs.Prelude.{ℕ}
use Rattle.register_kinds.specs.declared.state.AbsState.{AbsState}

-- a state, and a number that its identities are below
pub record NumberedState : Type 0 where
  pub state : AbsState
  pub top : ℕ
