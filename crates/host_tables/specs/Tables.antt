-- What a host's table holds, and what its writer does in one call.
use Rattle.std.specs.Prelude.{◌≡◌, ◌⊎◌, ℕ, zero, suc, ◌+◌, ◌-◌, ◌<◌, ◌≤◌, List, [], ◌∷◌, ◌++◌, All, Option, Some, None, IsSome, length, slice_index}
use Rattle.std.specs.List.{range_with_len}
use Rattle.map_table.specs.Counting.{AddsUp}
use Rattle.map_table.specs.Hashes.{layout_of}
use Rattle.map_table.specs.Held.{TableView}
use Rattle.map_table.specs.Moving.{GoesAside, IsSomeInside, NoneCanMove, StandStill, StayLinked}
use Rattle.map_table.specs.Sightings.{IsHeldUp}
use Rattle.map_table.specs.Values.{copies_of}
use Rattle.map_table.specs.Writing.{AreFull, Frees, Looks, Puts, StaysIn, Works, WriterView}
use Rattle.table_words.specs.declared.view.TableShape.{TableShape}
use Rattle.table_words.specs.declared.moves.Move.{Move}
use Rattle.table_words.specs.declared.moves.Move.TheVariants.{Put}
use Rattle.table_words.specs.Found.{IsLinkedUnder}
use Rattle.table_words.specs.History.{word_in}
use Rattle.table_words.specs.Layout.{Names}
use Rattle.table_words.specs.Lookups.{OnlySearches}
use Rattle.table_words.specs.Moved.{OnlyMoves}
use Rattle.table_words.specs.Once.{AreLinkedOnce}
use Rattle.host_tables.specs.declared.fault.How.{How}
use Rattle.host_tables.specs.declared.fault.How.TheVariants.{Any, New, Present}
use Rattle.host_tables.specs.declared.fault.SetFault.{SetFault}
use Rattle.host_tables.specs.declared.fault.SetFault.TheVariants.{Exists, Missing, NoElement, NoWay, Held}

-- which table, what its writer did and saw there, and how many seats are left
pub record OpenTable : Type 0 where
  pub table : TableView
  pub writer : WriterView
  pub seats : ℕ

-- Readers are numbered from 1, so the next one's number tells how many seats are left.
abbrev pub seats_left : TableView → WriterView → ℕ
seats_left t w = t.shape.readers + 1 - w.view.next

-- a table of this shape on which nothing was done
pub record IsNewTable (shape : TableShape) (t : OpenTable) : Type 0 where
  pub has_shape : t.table.shape ≡ shape
  pub undone : t.writer.view.mine ≡ []
  pub free : t.writer.free ≡ range_with_len 0 shape.elements
  pub unlinked : t.writer.unlinked ≡ []
  pub readers : t.seats ≡ shape.readers
  pub next : t.writer.view.next ≡ 1

-- What is so between any two calls: no key is linked in two ways, and of the elements, if there are any, one at least is not
-- linked.
pub record IsTidy (w : WriterView) : Type 0 where
  pub once : AreLinkedOnce (layout_of w.table.shape) 0 w.view.seen
  pub reserve : 0 < w.table.shape.elements → 0 < length w.free + length w.unlinked

-- The key is linked in this way, or in none.
abbrev pub Finds : TableShape → List ℕ → Option ℕ → WriterView → Type 0
Finds k key (Some way) w = IsLinkedUnder (layout_of k) 0 key way w.view.seen
Finds k key None w = (way : ℕ) → IsLinkedUnder (layout_of k) 0 key way w.view.seen → ⊥

-- The writer searched for the key and did nothing else.
pub record Seeks (key : List ℕ) (found : Option ℕ) (v w : WriterView) : Type 0 where
  pub moves : List Move
  pub only : OnlySearches (layout_of v.table.shape) 0 moves
  pub works : Works v moves w
  pub free : w.free ≡ v.free
  pub unlinked : w.unlinked ≡ v.unlinked
  pub finds : Finds v.table.shape key found w

-- A free element was filled, and linked under the key in an empty way.
pub record Links (key value : List ℕ) (v w : WriterView) : Type 0 where
  pub way : ℕ
  pub element : ℕ
  pub word : ℕ
  pub empty : word_in way v.view.mine ≡ 0
  pub taken : v.free ≡ w.free ++ element ∷ []
  pub names : Names word element
  pub puts : Puts way word element key value v w
  pub unlinked : w.unlinked ≡ v.unlinked
  pub under : IsLinkedUnder (layout_of v.table.shape) 0 key way w.view.seen

-- The writer moved elements to other ways, or none. It linked and unlinked nothing: each element that was linked under a key
-- is linked so after each step.
pub record Moves (v w : WriterView) : Type 0 where
  pub moves : List Move
  pub only : OnlyMoves moves v.view.mine
  pub works : Works v moves w
  pub free : w.free ≡ v.free
  pub unlinked : w.unlinked ≡ v.unlinked
  pub stay : StayLinked v.table.shape v.view.seen w.view.seen

-- Where both buckets of the key were full, the writer moved one element out of them; else it did nothing.
abbrev pub MakesWay : List ℕ → WriterView → WriterView → Type 0
MakesWay key v w = ((w ≡ v) × (AreFull v.view key → ⊥)) ⊎ (AreFull v.view key × Moves v w × GoesAside key v.view w.view)

-- The writer made a way for a new key, and linked the value under it.
pub record LinksNew (key value : List ℕ) (v w : WriterView) : Type 0 where
  pub ready : WriterView
  pub way : MakesWay key v ready
  pub links : Links key value ready w

-- A free element was filled, and put in the place of that in the way, in which the key stays linked all the time.
pub record Replaces (way : ℕ) (key value : List ℕ) (v w : WriterView) : Type 0 where
  pub element : ℕ
  pub word : ℕ
  pub gone : ℕ
  pub taken : v.free ≡ w.free ++ element ∷ []
  pub names : Names word element
  pub puts : Puts way word element key value v w
  pub was : Names (word_in way v.view.mine) gone
  pub unlinked : w.unlinked ≡ v.unlinked ++ gone ∷ []
  pub stays : StaysIn v.table.shape key way v.view.seen w.view.seen

-- The way was emptied, and its element waits for those who may have found it.
pub record Unlinks (way : ℕ) (v w : WriterView) : Type 0 where
  pub gone : ℕ
  pub was : Names (word_in way v.view.mine) gone
  pub unlinked : w.unlinked ≡ v.unlinked ++ gone ∷ []
  pub free : w.free ≡ v.free
  pub step : Works v (Put way 0 ∷ []) w

-- These elements became free, since each reader has left its section since their unlinking. Each of the others waits for a
-- reader that was seen inside, and not to leave since.
pub record Reclaims (gone : List ℕ) (v w : WriterView) : Type 0 where
  pub frees : Frees gone v w
  pub moves : List Move
  pub looks : Looks v moves w
  pub waits : All (λ e. IsHeldUp v.table.shape.readers e moves w.view.mine) w.unlinked

-- How many elements are to be free for a value under a key that was found so, or was not: its own; and under a new key one more,
-- so that a value can be replaced where all other elements are linked.
abbrev pub needed_for : Option ℕ → ℕ
needed_for None = 2
needed_for (Some way) = 1

-- Where fewer were free than are needed, the writer reclaimed what might be; else it did nothing.
abbrev pub MakesRoom : ℕ → WriterView → WriterView → Type 0
MakesRoom needed v w =
    ((w ≡ v) × (needed ≤ length v.free)) ⊎ ((length v.free < needed) × (gone : List ℕ) × Reclaims gone v w)

-- The key that was found so, or was not, is one of those that are asked for.
abbrev pub IsAsked : How → Option ℕ → Type 0
IsAsked Any found = Unit {0}
IsAsked New None = Unit {0}
IsAsked New (Some way) = ⊥
IsAsked Present None = ⊥
IsAsked Present (Some way) = Unit {0}

-- The value was put under the key: in its own way, or in an empty one.
abbrev pub PutsUnder : Option ℕ → List ℕ → List ℕ → WriterView → WriterView → Type 0
PutsUnder (Some way) key value v w = Replaces way key value v w
PutsUnder None key value v w = LinksNew key value v w

-- The writer made room, and put the value under a key that was found so, or was not.
pub record PutsWithRoom (found : Option ℕ) (key value : List ℕ) (v w : WriterView) : Type 0 where
  pub ready : WriterView
  pub room : MakesRoom (needed_for found) v ready
  pub puts : PutsUnder found key value ready w

-- The writer sought the key, made room, and put the value under it.
pub record Sets (key value : List ℕ) (how : How) (v w : WriterView) : Type 0 where
  pub sought : WriterView
  pub found : Option ℕ
  pub seeks : Seeks key found v sought
  pub asked : IsAsked how found
  pub puts : PutsWithRoom found key value sought w

-- Both buckets of the key were full, and an element there could be moved. A reader was found inside a section meanwhile, and each
-- way has the word that it had.
pub record IsHeld (key : List ℕ) (v w : WriterView) : Type 0 where
  pub full : AreFull v.view key
  pub some : NoneCanMove v.view key → ⊥
  pub moves : Moves v w
  pub inside : IsSomeInside v.table.shape.readers moves.moves
  pub still : StandStill v.view w.view

-- Both buckets of the key are full, and so are those of each key that is linked there. Each way has the word that it had.
pub record HasNoWay (key : List ℕ) (v w : WriterView) : Type 0 where
  pub full : AreFull w.view key
  pub none : NoneCanMove w.view key
  pub moves : Moves v w
  pub still : StandStill v.view w.view

-- Why there is no room for a value under a key that was found so, or was not: fewer elements are free than are needed. Or the key is
-- new, and has no way.
abbrev pub IsNoRoom : List ℕ → Option ℕ → WriterView → WriterView → SetFault → Type 0
IsNoRoom key found v w NoElement = (w ≡ v) × (length w.free < needed_for found)
IsNoRoom key found v w NoWay = (found ≡ None) × HasNoWay key v w
IsNoRoom key found v w Held = (found ≡ None) × IsHeld key v w
IsNoRoom key found v w fault = ⊥

-- The writer reclaimed what might be, where that was needed, and there is no room for this reason.
abbrev pub FindsNoRoom : List ℕ → Option ℕ → WriterView → WriterView → SetFault → Type 0
FindsNoRoom key found v w fault =
    (ready : WriterView) × MakesRoom (needed_for found) v ready × IsNoRoom key found ready w fault

-- Why a key that was found so, or was not, is not set. Where it is not asked for, nothing more was done.
abbrev pub IsWhy : List ℕ → How → Option ℕ → WriterView → WriterView → SetFault → Type 0
IsWhy key how found v w Exists = (how ≡ New) × IsSome found × (w ≡ v)
IsWhy key how found v w Missing = (how ≡ Present) × (found ≡ None) × (w ≡ v)
IsWhy key how found v w fault = IsAsked how found × FindsNoRoom key found v w fault

-- The writer sought the key, and for this reason did not set it.
pub record IsNotSet (key : List ℕ) (how : How) (v w : WriterView) (fault : SetFault) : Type 0 where
  pub sought : WriterView
  pub found : Option ℕ
  pub seeks : Seeks key found v sought
  pub why : IsWhy key how found sought w fault

-- The writer sought the key and found it, and emptied its way.
pub record Removes (key : List ℕ) (v w : WriterView) : Type 0 where
  pub sought : WriterView
  pub way : ℕ
  pub seeks : Seeks key (Some way) v sought
  pub unlinks : Unlinks way sought w

-- The writer loaded the words of all values of the element, place by place; each of these numbers is the sum at its place.
abbrev pub SumsUp : TableShape → ℕ → ℕ → List ℕ → List Move → Type 0
SumsUp k element zero sums ms = ms ≡ []
SumsUp k element (suc n) sums ms =
    (late early : List Move) × (ms ≡ late ++ early)
    × AddsUp element (k.key_words + n) k.value_words (copies_of k) late (slice_index sums n)
    × SumsUp k element n sums early

-- The writer sought the key and found it, and summed up the values of its element.
pub record Reads (key sums : List ℕ) (v w : WriterView) : Type 0 where
  pub sought : WriterView
  pub way : ℕ
  pub element : ℕ
  pub seeks : Seeks key (Some way) v sought
  pub names : Names (word_in way sought.view.mine) element
  pub moves : List Move
  pub works : Works sought moves w
  pub free : w.free ≡ sought.free
  pub unlinked : w.unlinked ≡ sought.unlinked
  pub total : SumsUp v.table.shape element v.table.shape.value_words sums moves
