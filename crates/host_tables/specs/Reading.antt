-- What a reader's run over a table is.
use Rattle.std.specs.Prelude.{ℕ, List}
use Rattle.classic_program.specs.Context.{IsPacketContext}
use Rattle.classic_program.specs.Machine.{Input}
use Rattle.shared_runs.specs.MapRuns.{HasFound, HasHeld, HasMet, HasOwn, HasWhole, RunsShared, ServesMaps}
use Rattle.map_table.specs.Held.{Holder}
use Rattle.table_words.specs.declared.view.TableShape.{TableShape}
use Rattle.shared_runs.specs.Words.{StoresSubWords}
use Rattle.verifier.specs.Checked.{Checked}

-- The reader's list gained the moves of a run of the program on the context, which exits with the value (`shared_runs::maps::run_shared`):
-- each word that it reached was of an element that it held; no lookup missed a key that stayed linked; what a lookup found was linked
-- under its key; its own words are those that were stored last; and a value in which no reader stores it saw whole.
pub record RunsOverTable (c : Checked) (context : List ℕ) (old new : Holder) (value : ℕ) : Type 0 where
  pub runs : RunsShared old.table.shape c context old new value
  pub held : HasHeld new.view
  pub found : HasFound new.view
  pub met : HasMet new.view
  pub own : HasOwn new.view
  pub whole : HasWhole new.view

-- The same on a context of the packet.
pub record RunsOnPacket (c : Checked) (p : Input) (old new : Holder) (value : ℕ) : Type 0 where
  pub context : List ℕ
  pub is : IsPacketContext p context
  pub runs : RunsOverTable c context old new value

-- A table of this shape serves the program: its maps have the table's lengths, the table has no more elements than programs run over,
-- and the program stores whole words and changes no map.
pub record CanServe (k : TableShape) (c : Checked) : Type 0 where
  pub maps : ServesMaps k c.shapes
  pub words : StoresSubWords c → ⊥
