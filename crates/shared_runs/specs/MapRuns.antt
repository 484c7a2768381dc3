-- What a run over the table leaves, and what is so between its steps.
use Rattle.std.specs.Prelude.{◌≡◌, ℕ, ◌≤◌, List, ◌∷◌, ◌++◌, length, Some, None}
use Rattle.bpf_model.specs.declared.limits.MapShape.{MapShape}
use Rattle.verifier.specs.Checked.{Checked}
use Rattle.world_laws.specs.Around.{regions}
use Rattle.table_words.specs.declared.moves.Move.{Move}
use Rattle.table_words.specs.declared.moves.Move.TheVariants.{Load, Store}
use Rattle.table_words.specs.History.{moves_of, with_writer, word_at, Holds}
use Rattle.table_words.specs.Lookups.{LooksUp}
use Rattle.table_words.specs.Found.{StaysInside}
use Rattle.table_words.specs.Whole.{OnlyWriterStores}
use Rattle.table_words.specs.declared.view.TableShape.{TableShape}
use Rattle.table_words.specs.declared.view.View.{View}
use Rattle.map_table.specs.Values.{first_of, owner_of}
use Rattle.map_table.specs.Hashes.{layout_of}
use Rattle.map_table.specs.Held.{Goes, Holder}
use Rattle.map_table.specs.Search.{StaysThere, WasThere}
use Rattle.shared_runs.specs.Running.{RunsOver}
use Rattle.shared_runs.specs.Words.{HaveLengths}
use Rattle.shared_runs.specs.MapTables.{table_of}

-- The maps have the table's lengths, and each element of the table has a word of its own.
pub record ServesMaps (k : TableShape) (shapes : List MapShape) : Type 0 where
  pub fits : HaveLengths k.key_words k.value_words shapes
  pub few : k.elements ≤ regions

-- The seat's list gained the moves of a shared run of the program on the context, in the seat's own values, which exits with the value, within as
-- many steps as the program has instructions.
abbrev pub RunsShared : TableShape → Checked → List ℕ → Holder → Holder → ℕ → Type 0
RunsShared k c context old new value = RunsOver (table_of k (first_of k old.view.me)) Goes c context old new value

-- a reader's move loads or stores a word of the element
abbrev pub Touches : ℕ → Move → Type 0
Touches element (Load e place x) = e ≡ element
Touches element (Store e place x) = e ≡ element
Touches element m = ⊥

-- Whenever the holder loaded or stored a word, it held its element by all that it had done before.
abbrev pub HasHeld : View → Type 0
HasHeld v = (after before : List (ℕ × Move)) (m : Move) (element : ℕ) →
    v.seen ≡ after ++ (v.me, m) ∷ before → Touches element m → Holds element (moves_of v.me before)

-- No lookup of the holder answered null to a key that stayed linked in one way meanwhile.
abbrev pub HasFound : View → Type 0
HasFound v = (key : List ℕ) (before ns : List Move) → LooksUp (layout_of v.shape) 0 key ns None →
    StaysThere v.shape key v.me before ns v.seen → ⊥

-- An element that a lookup of the holder answered was linked under the key at some moment of the lookup.
abbrev pub HasMet : View → Type 0
HasMet v = (key : List ℕ) (element : ℕ) (before ns : List Move) → length key ≡ v.shape.key_words →
    LooksUp (layout_of v.shape) 0 key ns (Some element) →
    WasThere v.shape key element v.me before ns v.seen

-- Where a place is the holder's own, each load of it found what the holder or the writer stored there last: nothing that
-- the holder had stored was lost, and no other reader's word lay over it.
abbrev pub HasOwn : View → Type 0
HasOwn v = (after before : List (ℕ × Move)) (element place word : ℕ) → owner_of v.shape place ≡ v.me →
    v.seen ≡ after ++ (v.me, Load element place word) ∷ before →
    word ≡ word_at element place (with_writer v.me before)

-- Values are seen whole. From a moment at which the holder held an element, while it stayed in its section and no reader stored
-- there, each load found the word of that moment. So all words that it loads there are of one `link` or `replace`.
abbrev pub HasWhole : View → Type 0
HasWhole v = (after late early : List (ℕ × Move)) (element place word : ℕ) →
    v.seen ≡ after ++ (v.me, Load element place word) ∷ (late ++ early) →
    Holds element (moves_of v.me early) → StaysInside (moves_of v.me late) → OnlyWriterStores element late →
    word ≡ word_at element place early
