-- What clauses see of the writer, and what it keeps of its slots.
use Rattle.std.specs.Prelude.{◌≡◌, ℕ, zero, suc, ◌+◌, ◌^◌, ◌%◌, ◌<◌, ◌≤◌, ◌==◌, List, [], ◌∷◌, ◌++◌, All, Some, length, slice_index, if◌then◌else◌}
use Rattle.read_table.specs.declared.view.Move.{Move}
use Rattle.read_table.specs.declared.view.Move.TheVariants.{Store, Header}
use Rattle.read_table.specs.declared.view.View.{View}
use Rattle.read_table.specs.History.{header_in, MayLink}
use Rattle.read_table.specs.Lookups.{key_word}
use Rattle.read_table.specs.Sightings.{IsHeldUp, ScansInTurn}
use Rattle.read_table.specs.Held.{TableView, Holder, IsKnown, Goes}

-- at which table, what the writer did and saw there, and its slots: those that it may link, those that are linked, and
-- those that it has unlinked and not yet reclaimed
pub record WriterView : Type 0 where
  pub table : TableView
  pub view : View
  pub free : List ℕ
  pub linked : List ℕ
  pub unlinked : List ℕ

-- the writer as a holder of a seat
abbrev pub as_holder : WriterView → Holder
as_holder w = record { table = w.table; view = w.view }

-- The writer did just these steps, the newest first.
abbrev pub Works : WriterView → List Move → WriterView → Type 0
Works v ms w = Goes (as_holder v) ms (as_holder w)

-- the list without one place at which the slot stood
abbrev pub Leaves : ℕ → List ℕ → List ℕ → Type 0
Leaves slot old new = (front back : List ℕ) × (old ≡ front ++ slot ∷ back) × (new ≡ front ++ back)

-- 1 for this slot, and 0 for another
abbrev pub one_for : ℕ → ℕ → ℕ
one_for slot s = if s == slot then 1 else 0

-- how often the slot stands in the list
abbrev pub times_in : ℕ → List ℕ → ℕ
times_in slot [] = 0
times_in slot (s ∷ ss) = one_for slot s + times_in slot ss

-- The first n words of these bytes were stored in the slot, from a place on.
abbrev pub Fills : ℕ → ℕ → List ℕ → ℕ → List Move → Type 0
Fills slot from bytes zero ms = ms ≡ []
Fills slot from bytes (suc n) ms =
    (x : ℕ) × (rest : List Move) × (ms ≡ Store slot (from + n) x ∷ rest)
    × (key_word bytes n ≡ Some x) × Fills slot from bytes n rest

-- The writer stored the words of the key and of the value in the slot, which was not linked, and then changed its
-- header.
abbrev pub Links : ℕ → List ℕ → List ℕ → WriterView → WriterView → Type 0
Links slot key value v w =
    (ks vs : List Move) × Fills slot 0 key v.table.shape.key_words ks
    × Fills slot v.table.shape.key_words value v.table.shape.value_words vs
    × (header_in slot v.view.mine % 2 ≡ 0)
    × Works v (Header slot (header_in slot v.view.mine + 1) ∷ (vs ++ ks)) w

-- The writer changed the header of the slot, which was linked, and did no more.
abbrev pub Unlinks : ℕ → WriterView → WriterView → Type 0
Unlinks slot v w =
    (header_in slot v.view.mine % 2 ≡ 1)
    × Works v (Header slot (header_in slot v.view.mine + 1) ∷ []) w

-- The writer only looked at section words, at that of each of the readers once at most.
abbrev pub Looks : ℕ → WriterView → List Move → WriterView → Type 0
Looks readers v ms w = ScansInTurn 0 readers ms × Works v ms w

-- It only looked at section words. A reader that was not seen outside a section since the slot was unlinked was found
-- inside.
abbrev pub Waits : ℕ → ℕ → WriterView → WriterView → Type 0
Waits readers slot v w =
    (ms : List Move) × Looks readers v ms w × IsHeldUp readers slot ms w.view.mine

-- a slot that may be linked
pub record IsFree (v : View) (slot : ℕ) : Type 0 where
  pub within : slot < v.shape.slots
  pub even : header_in slot v.mine % 2 ≡ 0
  pub bounded : header_in slot v.mine < 2 ^ 63
  pub may : MayLink v.shape.readers slot v.mine

-- a slot that is linked
pub record IsLinked (v : View) (slot : ℕ) : Type 0 where
  pub within : slot < v.shape.slots
  pub odd : header_in slot v.mine % 2 ≡ 1
  pub bounded : header_in slot v.mine < 2 ^ 63

-- a slot that was unlinked
pub record IsUnlinked (v : View) (slot : ℕ) : Type 0 where
  pub within : slot < v.shape.slots
  pub even : header_in slot v.mine % 2 ≡ 0
  pub bounded : header_in slot v.mine ≤ 2 ^ 63

-- The three lists have each slot once, in that where it belongs.
pub record AreSlots (v : View) (free linked unlinked : List ℕ) : Type 0 where
  pub once : (slot : ℕ) → slot < v.shape.slots → times_in slot free + times_in slot linked + times_in slot unlinked ≡ 1
  pub count : length free + length linked + length unlinked ≡ v.shape.slots
  pub are_free : All (IsFree v) free
  pub are_linked : All (IsLinked v) linked
  pub are_unlinked : All (IsUnlinked v) unlinked

-- what the writer keeps: it is number 0, what it saw is lawful, and it has each slot's header
pub record IsWriter (v : View) (headers : List ℕ) : Type 0 where
  pub me : v.me ≡ 0
  pub known : IsKnown v
  pub count : length headers ≡ v.shape.slots
  pub are_headers : (slot : ℕ) → slot < v.shape.slots → slice_index headers slot ≡ header_in slot v.mine
