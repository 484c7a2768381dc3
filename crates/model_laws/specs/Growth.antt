-- How elements may change.
use Rattle.std.specs.Prelude.{◌≡◌, ℕ, List, Some, slice_get}
use Rattle.bpf_model.specs.Element.{Element, Life, Linked, Unlinked, Reclaimed}

-- a life goes on by at most one step: a linked one stays so or is unlinked, an unlinked one keeps
-- its sections or is reclaimed, a reclaimed one stays so
abbrev pub IsLaterLife : Life → Life → Type 0
IsLaterLife Linked Linked = Unit {0}
IsLaterLife Linked (Unlinked t) = Unit {0}
IsLaterLife Linked Reclaimed = ⊥
IsLaterLife (Unlinked s) Linked = ⊥
IsLaterLife (Unlinked s) (Unlinked t) = s ≡ t
IsLaterLife (Unlinked s) Reclaimed = Unit {0}
IsLaterLife Reclaimed Linked = ⊥
IsLaterLife Reclaimed (Unlinked t) = ⊥
IsLaterLife Reclaimed Reclaimed = Unit {0}

pub record IsLaterElement (old new : Element) : Type 0 where
  pub in_map : new.map ≡ old.map
  pub under : new.key ≡ old.key
  pub uses : new.uses ≡ old.uses
  pub life : IsLaterLife old.life new.life

-- each element is still there, and has gone on by at most one step
abbrev pub ElementsGrow : List Element → List Element → Type 0
ElementsGrow old new =
    (n : ℕ) (e : Element) → slice_get old n ≡ Some e →
    (f : Element) × (slice_get new n ≡ Some f) × IsLaterElement e f
