-- A birth in the map slot that has been free longest, and a reclamation.
use Rattle.std.specs.Prelude.{◌≡◌, ℕ, ◌+◌, ◌<◌, List, [], ◌∷◌, length, drop, Option, Some, None}
use Rattle.std.specs.Prelude.{slice_get, slice_set}
use Rattle.bpf_model.specs.Section.{Section, AllEnded}
use Rattle.bpf_model.specs.Element.{Element, Life, Unlinked, IsLinkedAt, IsAbsent}
use Rattle.bpf_model.specs.declared.event.ReapedElement.{ReapedElement}
use Rattle.bpf_model.specs.Reclaim.{Reclaims}
use Rattle.bpf_model.specs.MapState.{MapState, Store, with_bag}
use Rattle.bpf_model.specs.Helper.{Replaces}

-- the map has a free map slot
abbrev pub HasFree : Store → ℕ → Type 0
HasFree s map = (m : MapState) → slice_get s.maps map ≡ Some m → 0 < length m.bag

-- the replacement, by the state of the map where there is one
abbrev pub ReplacesIn : Store → List Section → ℕ → List ℕ → List ℕ → Option ℕ → Store → Type 0
ReplacesIn s opened map key value found new =
    (m : MapState) → slice_get s.maps map ≡ Some m → Replaces s opened map m key value found new

-- one more than the first count of the bag
abbrev pub uses_after_first : List ℕ → ℕ
uses_after_first [] = 1
uses_after_first (count ∷ rest) = count + 1

abbrev pub NextUse : Store → ℕ → ℕ → Type 0
NextUse s map use_count =
    (m : MapState) → slice_get s.maps map ≡ Some m → use_count ≡ uses_after_first m.bag

abbrev pub set_first : List MapState → ℕ → Option MapState → List MapState
set_first ms map None = ms
set_first ms map (Some m) = slice_set ms map (with_bag (drop 1 m.bag) m)

-- the maps after one of them lost the first count of its bag
abbrev pub without_first_free : List MapState → ℕ → List MapState
without_first_free ms map = set_first ms map (slice_get ms map)

-- an element of this life may be reclaimed
abbrev pub MayReclaim : Life → List Section → Type 0
MayReclaim life opened = (since : List Section) × (life ≡ Unlinked since) × AllEnded since opened

-- element n was reclaimed, and told
abbrev pub ReclaimsTo : Store → List Section → ℕ → Store → ReapedElement → Type 0
ReclaimsTo s opened n new reaped =
    (e : Element) × Reclaims s opened n e reaped.given new × (reaped.map ≡ e.map)
    × (reaped.key.items ≡ e.key)

-- element n may be reclaimed: there is a step that does
abbrev pub CanReclaim : Store → List Section → ℕ → Type 0
CanReclaim s opened n = (new : Store) × (reaped : ReapedElement) × ReclaimsTo s opened n new reaped

-- the value that was found under a key
abbrev pub Finds : List Element → ℕ → List ℕ → Option (List ℕ) → Type 0
Finds es map key None = IsAbsent es map key
Finds es map key (Some value) =
    (n : ℕ) × (linked : IsLinkedAt es map key n) × (value ≡ linked.element.value)
