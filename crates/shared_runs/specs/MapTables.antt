-- A map table as runs see it: a key is given by its bytes.
use Rattle.std.specs.Prelude.{◌≡◌, ℕ, ◌+◌, ◌*◌, ◌<◌, List, Option, Some, IfSome, length, slice_get, slice_index}
use Rattle.bpf_model.specs.Access.{number_at}
use Rattle.table_words.specs.declared.moves.Move.{Move}
use Rattle.table_words.specs.declared.moves.Move.TheVariants.{Open, Close, Load, Store}
use Rattle.table_words.specs.History.{inside, Holds}
use Rattle.table_words.specs.Lookups.{LooksUp}
use Rattle.table_words.specs.declared.view.TableShape.{TableShape}
use Rattle.map_table.specs.Hashes.{layout_of}
use Rattle.shared_runs.specs.Tables.{Table}
use Rattle.shared_runs.specs.Words.{HasLengths}

-- the bytes are those of the words, in order, each with its lowest byte first
pub record AreBytesOf (words bytes : List ℕ) : Type 0 where
  pub long : length bytes ≡ 8 * length words
  pub each : (place : ℕ) → place < length words →
      number_at (slice_get bytes) (8 * place) 8 ≡ Some (slice_index words place)

-- The moves are a lookup of the key of these bytes, which finds this.
pub record LooksUpBytes (k : TableShape) (bytes : List ℕ) (ms : List Move) (found : Option ℕ)
    : Type 0 where
  pub key : List ℕ
  pub count : length key ≡ k.key_words
  pub bytes_are : AreBytesOf key bytes
  pub looked : LooksUp (layout_of k) 0 key ms found
  pub within : IfSome found (λ element. element < k.elements)

-- The table as a reader's runs see it, whose value begins at this place of an element: behind the key, or, where each
-- reader has a value of its own, behind those of others. Each map of a program is the whole table, if it has its lengths.
abbrev pub table_of : TableShape → ℕ → Table
table_of k first = record {
  Move = Move;
  elements = k.elements;
  Keeps = λ map shape. HasLengths k.key_words k.value_words shape;
  key_words = λ map. k.key_words;
  value_words = k.value_words;
  begins = Open;
  ends = Close;
  finds = λ element place word. Load element (first + place) word;
  writes = λ element place word. Store element (first + place) word;
  inside = inside;
  Holds = Holds;
  LooksUp = λ map. LooksUpBytes k;
}
