-- Identities in a join: each new one stands for a pair.
use Rattle.std.specs.Prelude.{◌≡◌, ℕ, ◌+◌, ◌<◌, ◌≤◌}
use Rattle.plan_laws.specs.Kinds.{Kind, MaybeNull}
use Rattle.register_kinds.specs.declared.state.AbsState.{AbsState}
use Rattle.register_kinds.specs.States.{kind_at}

-- identities below this number
abbrev pub IsBelow : ℕ → Kind → Type 0
IsBelow top (MaybeNull map id) = id < top
IsBelow top kind = Unit {0}

pub record AreBelow (top : ℕ) (a : AbsState) : Type 0 where
  pub regs : (r : ℕ) → IsBelow top (kind_at a.regs r)
  pub spills : (g : ℕ) → IsBelow top (kind_at a.frame.spills g)

-- so many identities were taken at most
abbrev pub TakesFew : ℕ → ℕ → ℕ → Type 0
TakesFew count old new = (old ≤ new) × (new ≤ old + count)

-- What the identities of a joined state stand for: an old one for itself and itself, each new one
-- for a pair of different ones, of its own.
pub record IsPairing (old new : ℕ) (pair : ℕ → ℕ × ℕ) : Type 0 where
  pub same : (id : ℕ) → id < old → pair id ≡ (id, id)
  pub unequal : (id : ℕ) → old ≤ id → id < new → (pair id).0 ≡ (pair id).1 → ⊥
  pub single : (i j : ℕ) → old ≤ i → i < new → old ≤ j → j < new → pair i ≡ pair j → i ≡ j
