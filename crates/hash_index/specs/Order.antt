-- Keys in byte order, and the least key above a bound.
use Rattle.std.specs.Prelude.{◌≡◌, ℕ, ◌<◌, List, [], ◌∷◌, Option, Some, None, slice_get}
use Rattle.std.specs.Ordering.{nat_cmp}
use Rattle.std.specs.declared.cmp.Ordering.TheVariants.{Less}
use Rattle.std.specs.Cmp.Lexicographic.{slice_cmp}
use Rattle.std.specs.FinMap.{get}
use Rattle.bpf_model.specs.View.{KeyMap}
use Rattle.element_store.specs.State.{times_in}

-- a comes before b in byte order
abbrev pub IsLess : List ℕ → List ℕ → Type 0
IsLess a b = slice_cmp nat_cmp a b ≡ Less

-- the keys of the slots ascend
abbrev pub IsAscending : (ℕ → List ℕ) → List ℕ → Type 0
IsAscending key slots =
    (i j s t : ℕ) → i < j → slice_get slots i ≡ Some s → slice_get slots j ≡ Some t →
    IsLess (key s) (key t)

-- every key is above no bound
abbrev pub IsAbove : Option (List ℕ) → List ℕ → Type 0
IsAbove None key = Unit {0}
IsAbove (Some bound) key = IsLess bound key

-- no key of the map is above the bound
abbrev pub NoneAbove : KeyMap → Option (List ℕ) → Type 0
NoneAbove m bound = (key : List ℕ) (i : ℕ) → get m key ≡ Some i → IsAbove bound key → ⊥

-- no key of the map is above the bound and below the last
abbrev pub NoneBetween : KeyMap → Option (List ℕ) → List ℕ → Type 0
NoneBetween m bound last =
    (key : List ℕ) (i : ℕ) → get m key ≡ Some i → IsAbove bound key → IsLess key last → ⊥

-- of these slots it is the one with the least key above the bound, or there is none
abbrev pub IsLeastOf : (ℕ → List ℕ) → Option (List ℕ) → List ℕ → Option ℕ → Type 0
IsLeastOf key bound slots None = (j : ℕ) → 0 < times_in j slots → IsAbove bound (key j) → ⊥
IsLeastOf key bound slots (Some i) =
    (0 < times_in i slots) × IsAbove bound (key i)
    × ((j : ℕ) → 0 < times_in j slots → IsAbove bound (key j) → IsLess (key j) (key i) → ⊥)

-- Slot i has the least key above the bound.
pub record IsNextOf (m : KeyMap) (key : ℕ → List ℕ) (bound : Option (List ℕ)) (i : ℕ)
    : Type 0 where
  pub linked : get m (key i) ≡ Some i
  pub above : IsAbove bound (key i)
  pub least : NoneBetween m bound (key i)

-- These are the slots of the keys above the bound, in byte order: each has the least key above that
-- of the one before, and no key is above that of the last.
abbrev pub AreInOrder : KeyMap → (ℕ → List ℕ) → Option (List ℕ) → List ℕ → Type 0
AreInOrder m key bound [] = NoneAbove m bound
AreInOrder m key bound (i ∷ slots) =
    IsNextOf m key bound i × AreInOrder m key (Some (key i)) slots
