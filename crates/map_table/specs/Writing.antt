-- What clauses see of the writer, and what it keeps of its ways and elements.
use Rattle.std.specs.Prelude.{◌≡◌, ◌≢◌, ℕ, zero, suc, ◌+◌, ◌<◌, ◌≤◌, ◌==◌, List, [], ◌∷◌, ◌++◌, All, length, slice_index, if◌then◌else◌}
use Rattle.table_words.specs.declared.moves.Move.{Move}
use Rattle.table_words.specs.declared.moves.Move.TheVariants.{Store, Put, Scan}
use Rattle.table_words.specs.Layout.{IsCandidate}
use Rattle.table_words.specs.History.{word_in, IsLinked, IsSpare}
use Rattle.table_words.specs.Found.{StaysFound}
use Rattle.table_words.specs.Scanned.{ScansInTurn}
use Rattle.table_words.specs.declared.view.TableShape.{TableShape}
use Rattle.table_words.specs.declared.view.View.{View}
use Rattle.map_table.specs.Hashes.{layout_of}
use Rattle.map_table.specs.Law.{dealt, ways_of}
use Rattle.map_table.specs.Values.{stored_of}
use Rattle.map_table.specs.Sightings.{AreCleared}
use Rattle.map_table.specs.Held.{TableView, Holder, IsKnown, IsSized, Goes}

-- at which table, what the writer did and saw there, the elements that it may fill, and those that it has unlinked and not
-- yet reclaimed
pub record WriterView : Type 0 where
  pub table : TableView
  pub view : View
  pub free : List ℕ
  pub unlinked : List ℕ

-- the writer as a holder of a seat
abbrev pub as_holder : WriterView → Holder
as_holder w = record { table = w.table; view = w.view }

-- The writer did just these steps, the newest first.
abbrev pub Works : WriterView → List Move → WriterView → Type 0
Works v ms w = Goes (as_holder v) ms (as_holder w)

-- The writer looked at the section word of the reader that comes next, and made its seat.
pub record MakesSeat (v w : WriterView) : Type 0 where
  pub word : ℕ
  pub looked : WriterView
  pub looks : Works v (Scan v.view.next word ∷ []) looked
  pub seated : w ≡ record looked { view = dealt looked.view }
  pub free : looked.free ≡ v.free
  pub unlinked : looked.unlinked ≡ v.unlinked

-- So many readers have a seat, of those that the table has.
pub record HasSeated (v : View) (count : ℕ) : Type 0 where
  pub next : v.next ≡ count + 1
  pub within : count ≤ v.shape.readers

-- how often the element stands in the list
abbrev pub times_in : ℕ → List ℕ → ℕ
times_in element [] = 0
times_in element (e ∷ es) = (if e == element then 1 else 0) + times_in element es

-- The first n of these words were stored in the element, from a place on.
abbrev pub Fills : ℕ → ℕ → List ℕ → ℕ → List Move → Type 0
Fills element from words zero ms = ms ≡ []
Fills element from words (suc n) ms =
    (rest : List Move) × (ms ≡ Store element (from + n) (slice_index words n) ∷ rest)
    × Fills element from words n rest

-- The writer stored the key and the words of the values in the element, and then put the word in the way.
abbrev pub Puts : ℕ → ℕ → ℕ → List ℕ → List ℕ → WriterView → WriterView → Type 0
Puts way word element key value v w =
    (ks vs : List Move) × Fills element 0 key v.table.shape.key_words ks
    × Fills element v.table.shape.key_words value (stored_of v.table.shape) vs
    × Works v (Put way word ∷ (vs ++ ks)) w

-- an element that may be filled
abbrev pub IsFree : View → ℕ → Type 0
IsFree v element = (element < v.shape.elements) × IsSpare v.shape.readers element v.mine

-- an element that no way names
abbrev pub IsUnlinked : View → ℕ → Type 0
IsUnlinked v element = (element < v.shape.elements) × (IsLinked element v.mine → ⊥)

-- each way of both buckets names an element
abbrev pub AreFull : View → List ℕ → Type 0
AreFull v key = (way : ℕ) → IsCandidate (layout_of v.shape) 0 key way → word_in way v.mine ≢ 0

-- The second history goes on from the first, and after each of its steps the key is linked in the way.
abbrev pub StaysIn : TableShape → List ℕ → ℕ → List (ℕ × Move) → List (ℕ × Move) → Type 0
StaysIn k key way old new =
    (late : List (ℕ × Move)) × (new ≡ late ++ old) × StaysFound (layout_of k) 0 key way late old

-- The writer only looked at section words, at that of each of the readers once at most.
abbrev pub Looks : WriterView → List Move → WriterView → Type 0
Looks v ms w = ScansInTurn 0 v.table.shape.readers ms × Works v ms w

-- These elements, which were unlinked first, became free: each reader has left its section since.
pub record Frees (gone : List ℕ) (v w : WriterView) : Type 0 where
  pub unlinked : v.unlinked ≡ gone ++ w.unlinked
  pub free : w.free ≡ v.free ++ gone
  pub cleared : All (λ element. AreCleared v.table.shape.readers element w.view.mine) gone

-- an element that is neither free nor unlinked is linked
abbrev pub IsNoneLost : View → List ℕ → List ℕ → Type 0
IsNoneLost v free unlinked = (element : ℕ) → element < v.shape.elements →
    times_in element free + times_in element unlinked ≡ 0 → IsLinked element v.mine

-- What the writer keeps: it is number 0, what it saw is lawful, it has each way's word, and its lists have each element
-- once at most.
pub record IsWriter (v : View) (ways free unlinked : List ℕ) : Type 0 where
  pub me : v.me ≡ 0
  pub known : IsKnown v
  pub sized : IsSized v.shape
  pub count : length ways ≡ ways_of v.shape
  pub are_ways : (way : ℕ) → way < ways_of v.shape → slice_index ways way ≡ word_in way v.mine
  pub are_free : All (IsFree v) free
  pub are_unlinked : All (IsUnlinked v) unlinked
  pub once : (element : ℕ) → times_in element free + times_in element unlinked ≤ 1
