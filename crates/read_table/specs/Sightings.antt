-- Which readers the writer has seen outside a section, and what its scans tell.
use Rattle.std.specs.Prelude.{◌≡◌, ◌≢◌, ◌⊎◌, ◌↔◌, ℕ, ◌+◌, ◌-◌, ◌*◌, ◌<◌, ◌≤◌, List, [], ◌∷◌, length, get_or, Bool, true, false, MatchBool}
use Rattle.read_table.specs.declared.view.Move.{Move}
use Rattle.read_table.specs.declared.view.Move.TheVariants.{Scan}
use Rattle.read_table.specs.declared.view.View.{View}
use Rattle.read_table.specs.History.{Cleared}
use Rattle.read_table.specs.Limits.{most_readers, most_table_slots}

-- whether it is noted of a reader, counted from 0, that it was seen outside a section since the slot's header changed
abbrev pub noted : List Bool → ℕ → ℕ → Bool
noted seen slot reader = get_or seen (reader * most_table_slots + slot) false

-- The notes say of each slot and each reader what is so.
pub record AreSightings (v : View) (seen : List Bool) : Type 0 where
  pub room : length seen ≡ most_readers * most_table_slots
  pub few : v.shape.readers ≤ most_readers
  pub slots : v.shape.slots ≤ most_table_slots
  pub right : (slot reader : ℕ) → slot < v.shape.slots → reader < v.shape.readers →
      (noted seen slot reader ≡ true) ↔ Cleared (reader + 1) slot v.mine

-- Each move is a scan of a reader behind the first number and up to the second, and none is looked at twice: the newest, which
-- stands first, is of the highest.
abbrev pub ScansInTurn : ℕ → ℕ → List Move → Type 0
ScansInTurn low high [] = Unit {0}
ScansInTurn low high (Scan r x ∷ ms) = (low < r) × (r ≤ high) × ScansInTurn low (r - 1) ms
ScansInTurn low high (_ ∷ ms) = ⊥

-- the reader was found inside a section
abbrev pub FoundInside : ℕ → List Move → Type 0
FoundInside reader [] = ⊥
FoundInside reader (Scan r x ∷ ms) = ((r ≡ reader) × (x ≢ 0)) ⊎ FoundInside reader ms
FoundInside reader (_ ∷ ms) = FoundInside reader ms

-- each of the first readers was seen outside a section since the slot's header changed
abbrev pub AreCleared : ℕ → ℕ → List Move → Type 0
AreCleared readers slot mine = (r : ℕ) → 0 < r → r ≤ readers → Cleared r slot mine

-- One of the first readers was not seen outside a section since the slot's header changed, and these moves found it
-- inside.
pub record IsHeldUp (readers slot : ℕ) (ms mine : List Move) : Type 0 where
  pub reader : ℕ
  pub some : 0 < reader
  pub within : reader ≤ readers
  pub never : Cleared reader slot mine → ⊥
  pub inside : FoundInside reader ms

-- what a round of scans tells of a slot: that each reader was seen outside, or which was not
abbrev pub Tells : ℕ → ℕ → List Move → List Move → Bool → Type 0
Tells readers slot ms mine each =
    MatchBool each (AreCleared readers slot mine) (IsHeldUp readers slot ms mine)
