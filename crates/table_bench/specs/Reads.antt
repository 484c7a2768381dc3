-- What the measurements ask of a table, its readers, its writer and the program that they run.
use Rattle.std.specs.Prelude.{◌≡◌}
use Rattle.read_table.specs.declared.view.TableShape.{TableShape}
use Rattle.verifier.specs.Checked.{Checked}
use Rattle.read_table.specs.Table.{table_of}
use Rattle.table_words.specs.declared.view.TableShape.{TableShape as MapTableShape}
use Rattle.map_table.specs.Values.{stored_of}
use Rattle.shared_runs.specs.MapRuns.{ServesMaps}
use Rattle.shared_runs.specs.Words.{FitsTable, StoresSubWords}
use Rattle.table_bench.specs.declared.apart.AtHome.{AtHome}

-- keys and values are of one word
abbrev pub HasWordLengths : TableShape → Type 0
HasWordLengths k = (k.key_words ≡ 1) × (k.value_words ≡ 1)

-- The program's maps have the table's lengths, and its context is empty.
abbrev pub IsProgramOf : TableShape → Checked → Type 0
IsProgramOf k c = FitsTable (table_of k) c.shapes × (c.ctx_len ≡ 0)

-- keys of a map table are of one word, and so is what an element stores beside its key
abbrev pub HasOneWord : MapTableShape → Type 0
HasOneWord k = (k.key_words ≡ 1) × (stored_of k ≡ 1)

-- The program's maps have the map table's lengths, words serve it, and its context is empty.
pub record IsMapProgramOf (k : MapTableShape) (c : Checked) : Type 0 where
  pub maps : ServesMaps k c.shapes
  pub words : StoresSubWords c → ⊥
  pub context : c.ctx_len ≡ 0

-- the reader's table is as large as is asked for, and the reader is at it
abbrev pub IsAtHome : {S T : Type 0} → (S → Type 0) → (S → T → Type 0) → AtHome S T → Type 0
IsAtHome set reader one = set one.table × reader one.table one.runner.reader
