-- What clauses see of a table and of those who hold a seat at it.
use Rattle.std.specs.Prelude.{◌≡◌, ℕ, ◌+◌, ◌<◌, ◌≤◌, List, [], ◌∷◌, ◌++◌, Some, slice_get}
use Rattle.atomic_table.specs.Seated.{TableId}
use Rattle.table_words.specs.declared.moves.Move.{Move}
use Rattle.table_words.specs.declared.view.TableShape.{TableShape}
use Rattle.table_words.specs.declared.view.View.{View}
use Rattle.table_words.specs.History.{moves_of, inside, IsLawful}
use Rattle.table_words.specs.Hashes.{layout_of}
use Rattle.table_words.specs.Limits.{most_readers, most_buckets, most_elements, most_words}

-- which table, and how many of each it has
pub record TableView : Type 0 where
  pub id : TableId
  pub shape : TableShape

-- who holds a seat, at which table, with what was done and seen there
pub record Holder : Type 0 where
  pub table : TableView
  pub view : View

-- the table is within its limits
pub record IsSized (k : TableShape) : Type 0 where
  pub readers : k.readers ≤ most_readers
  pub some_buckets : 0 < k.buckets
  pub buckets : k.buckets ≤ most_buckets
  pub elements : k.elements ≤ most_elements
  pub key : k.key_words ≤ most_words
  pub value : k.value_words ≤ most_words

-- what the holder saw is lawful, and its own part of it is its list
abbrev pub IsKnown : View → Type 0
IsKnown v = IsLawful (layout_of v.shape) v.seen × (moves_of v.me v.seen ≡ v.mine)

-- The holder's list became this one. It saw a lawful history, which goes on from what it saw before and in which its
-- own part is that list.
abbrev pub Went : View → List Move → View → Type 0
Went v ms w =
    (before : List (ℕ × Move))
    × (w ≡ record v { mine = ms; seen = before ++ v.seen })
    × IsLawful (layout_of v.shape) w.seen × (moves_of v.me w.seen ≡ ms)

-- the holder did just these steps, the newest first
pub record Goes (s : Holder) (ms : List Move) (t : Holder) : Type 0 where
  pub table : t.table ≡ s.table
  pub went : Went s.view (ms ++ s.view.mine) t.view

-- the holder did just this step
abbrev pub Does : Holder → Move → Holder → Type 0
Does s m t = Goes s (m ∷ []) t

-- The holder did just these two steps, the second right behind the first: nobody did anything between them.
pub record DoesBoth (s : Holder) (m n : Move) (t : Holder) : Type 0 where
  pub goes : Goes s (n ∷ m ∷ []) t
  pub before : List (ℕ × Move)
  pub at_once : t.view.seen ≡ (s.view.me, n) ∷ (s.view.me, m) ∷ before

-- the seat is this table's, and outside a section
pub record IsReady (here : TableView) (s : Holder) : Type 0 where
  pub table : s.table ≡ here
  pub outside : inside s.view.mine ≡ 0
  pub known : IsKnown s.view

-- each seat is that of the reader of its index, and readers count from 1
abbrev pub AreInOrder : List Holder → Type 0
AreInOrder seats = (i : ℕ) (s : Holder) → slice_get seats i ≡ Some s → s.view.me ≡ i + 1

-- the holder has done nothing yet
abbrev pub IsNew : Holder → Type 0
IsNew s = s.view.mine ≡ []
