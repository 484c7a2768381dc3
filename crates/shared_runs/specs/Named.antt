-- Several maps in one table: a map is a name, which is the first word of its keys there.
use Rattle.std.specs.Prelude.{◌≡◌, ℕ, ◌+◌, ◌<◌, ◌≤◌, List, Option, Some, None, IfSome, All, length, slice_get, slice_index}
use Rattle.bpf_model.specs.declared.limits.MapKind.TheVariants.{Hash}
use Rattle.bpf_model.specs.declared.limits.MapShape.{MapShape}
use Rattle.table_words.specs.declared.moves.Move.{Move}
use Rattle.table_words.specs.declared.moves.Move.TheVariants.{Open, Close, Load, Store}
use Rattle.table_words.specs.History.{inside, Holds}
use Rattle.table_words.specs.Lookups.{LooksUp}
use Rattle.table_words.specs.declared.view.TableShape.{TableShape}
use Rattle.map_table.specs.Hashes.{layout_of}
use Rattle.map_table.specs.Held.{Goes, Holder}
use Rattle.map_table.specs.Values.{first_of}
use Rattle.verifier.specs.Checked.{Checked}
use Rattle.world_laws.specs.Around.{regions}
use Rattle.shared_runs.specs.Running.{RunsOver}
use Rattle.shared_runs.specs.Tables.{Table}
use Rattle.shared_runs.specs.Words.{HasLengths}
use Rattle.shared_runs.specs.declared.maps.named_map.NamedMap.{NamedMap}
use Rattle.shared_runs.specs.MapTables.{AreBytesOf}

-- The table's key for these words of a map of this name: the name, the words in order, and zeros behind them.
pub record IsKeyUnder (name : ℕ) (words key : List ℕ) : Type 0 where
  pub named : slice_index key 0 ≡ name
  pub each : (place : ℕ) → place < length words →
      slice_index key (place + 1) ≡ slice_index words place
  pub zeros : (place : ℕ) → length words < place → place < length key →
      slice_index key place ≡ 0

-- The table has room for such a map of a program, which has this shape: keys have a word less than the table's at most, and
-- values lie in an element.
pub record IsRoomFor (k : TableShape) (named : NamedMap) (shape : MapShape) : Type 0 where
  pub lengths : HasLengths named.key_words named.value_words shape
  pub key : named.key_words + 1 ≤ k.key_words
  pub value : named.value_words ≤ k.value_words

-- the list names a map at this index, and the table has room for it
abbrev pub KeepsNamed : TableShape → List NamedMap → ℕ → MapShape → Type 0
KeepsNamed k maps map shape =
    (named : NamedMap) × (slice_get maps map ≡ Some named) × IsRoomFor k named shape

-- how many words a key has of the map that the list names, if it names one
abbrev pub key_words_in : Option NamedMap → ℕ
key_words_in None = 0
key_words_in (Some named) = named.key_words

-- The moves are a lookup in a map of the list, of the key of these bytes: the table's key for them is looked up.
pub record LooksUpNamed (k : TableShape) (maps : List NamedMap) (map : ℕ) (bytes : List ℕ)
    (ms : List Move) (found : Option ℕ) : Type 0 where
  pub named : NamedMap
  pub listed : slice_get maps map ≡ Some named
  pub words : List ℕ
  pub bytes_are : AreBytesOf words bytes
  pub key : List ℕ
  pub count : length key ≡ k.key_words
  pub under : IsKeyUnder named.name words key
  pub looked : LooksUp (layout_of k) 0 key ms found
  pub within : IfSome found (λ element. element < k.elements)

-- The table as runs of a reader see it whose programs have these maps; the reader's value begins at this place.
abbrev pub named_table_of : TableShape → List NamedMap → ℕ → Table
named_table_of k maps first = record {
  Move = Move;
  elements = k.elements;
  Keeps = KeepsNamed k maps;
  key_words = λ map. key_words_in (slice_get maps map);
  value_words = k.value_words;
  begins = Open;
  ends = Close;
  finds = λ element place word. Load element (first + place) word;
  writes = λ element place word. Store element (first + place) word;
  inside = inside;
  Holds = Holds;
  LooksUp = LooksUpNamed k maps;
}

-- each map of the program is a hash map that the list names at its index, and for which the table has room
abbrev pub AreKept : TableShape → List NamedMap → List MapShape → Type 0
AreKept k maps shapes = (i : ℕ) (shape : MapShape) → slice_get shapes i ≡ Some shape →
    KeepsNamed k maps i shape × (shape.kind ≡ Hash)

-- where another has this one's name, it is of the same lengths
abbrev pub AgreesWith : NamedMap → NamedMap → Type 0
AgreesWith named other = other.name ≡ named.name →
    (other.key_words ≡ named.key_words) × (other.value_words ≡ named.value_words)

-- maps of one name in the list are of the same lengths
abbrev pub AgreeByName : List NamedMap → Type 0
AgreeByName maps = All (λ named. All (AgreesWith named) maps) maps

-- The table keeps the program's maps, those of one name are of the same lengths, and each of its elements has a word of its own.
pub record ServesNamed (k : TableShape) (maps : List NamedMap) (shapes : List MapShape) : Type 0
  where
    pub kept : AreKept k maps shapes
    pub agree : AgreeByName maps
    pub few : k.elements ≤ regions

-- The seat's list gained the moves of a shared run of the program, with these maps, on the context, in the seat's own values.
-- It exits with the value, within as many steps as the program has instructions.
abbrev pub RunsNamed : TableShape → List NamedMap → Checked → List ℕ → Holder → Holder → ℕ →
    Type 0
RunsNamed k maps c context old new value =
    RunsOver (named_table_of k maps (first_of k old.view.me)) Goes c context old new value
