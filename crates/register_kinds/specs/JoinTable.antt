-- The table of pairs while two states are joined, and what a joined kind or cell is by it.
use Rattle.std.specs.Prelude.{◌≡◌, ℕ, ◌+◌, ◌-◌, nat_lt, List, length, slice_get, Some}
use Rattle.std.specs.Prelude.{unwrap_or, if◌then◌else◌}
use Rattle.plan_laws.specs.Kinds.{Kind, CellKind}
use Rattle.plan_laws.specs.Effects.{IsWiderKind, IsWiderCell}
use Rattle.register_kinds.specs.Joined.{IsJoinedKind, IsJoinedCell}
use Rattle.register_kinds.specs.Pairs.{IsBelow}

-- the new list is the old one, and more
abbrev pub PairsGrow : List (ℕ × ℕ) → List (ℕ × ℕ) → Type 0
PairsGrow old new = (k : ℕ) (p : ℕ × ℕ) → slice_get old k ≡ Some p → slice_get new k ≡ Some p

-- the two identities that one of the joined state stands for: an old one for itself and itself, the
-- new ones for the pairs in turn
abbrev pub pair_of : ℕ → List (ℕ × ℕ) → ℕ → ℕ × ℕ
pair_of top pairs id =
    if nat_lt id top then (id, id) else unwrap_or (slice_get pairs (id - top)) (0, 0)

-- The list has each pair once, and none of two equal ones.
pub record IsTable (pairs : List (ℕ × ℕ)) : Type 0 where
  pub single : (k l : ℕ) (p : ℕ × ℕ) → slice_get pairs k ≡ Some p → slice_get pairs l ≡ Some p →
      k ≡ l
  pub unequal : (k : ℕ) (p : ℕ × ℕ) → slice_get pairs k ≡ Some p → p.0 ≡ p.1 → ⊥

-- The third kind is wider than either, where its identities stand for those pairs.
pub record JoinsKind (top : ℕ) (pairs : List (ℕ × ℕ)) (a b c : Kind) : Type 0 where
  pub left : IsWiderKind (λ id. (pair_of top pairs id).0) a c
  pub right : IsWiderKind (λ id. (pair_of top pairs id).1) b c
  pub below : IsBelow (top + length pairs) c
  pub exact : IsJoinedKind a b c

pub record JoinsCell (top : ℕ) (pairs : List (ℕ × ℕ)) (a b c : CellKind) : Type 0 where
  pub left : IsWiderCell (λ id. (pair_of top pairs id).0) a c
  pub right : IsWiderCell (λ id. (pair_of top pairs id).1) b c
  pub exact : IsJoinedCell a b c
