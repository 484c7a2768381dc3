-- What the readers of a table need.
use Rattle.std.specs.Prelude.{◌≡◌}
use Rattle.verifier.specs.Checked.{Checked}
use Rattle.table_words.specs.declared.view.TableShape.{TableShape}
use Rattle.map_table.specs.Held.{IsReady, TableView}
use Rattle.map_table.specs.Values.{stored_of}
use Rattle.shared_runs.specs.MapRuns.{ServesMaps}
use Rattle.shared_runs.specs.Words.{StoresSubWords}
use Rattle.soak.specs.declared.tables.Watcher.{Watcher}

-- keys are of one word, and so is what an element stores beside its key
abbrev pub HasOneWord : TableShape → Type 0
HasOneWord k = (k.key_words ≡ 1) × (stored_of k ≡ 1)

-- The program's maps have the table's lengths, words serve it, and its context is a word.
pub record IsProgramOf (k : TableShape) (c : Checked) : Type 0 where
  pub maps : ServesMaps k c.shapes
  pub words : StoresSubWords c → ⊥
  pub context : c.ctx_len ≡ 8

-- the reader's seat is this table's, and outside a section
abbrev pub IsReadyWatcher : TableView → Watcher → Type 0
IsReadyWatcher here w = IsReady here w.seat
