-- When the report of a job that was served from a `ReadTable` is right.
use Rattle.std.specs.Prelude.{ℕ, List, All}
use Rattle.verifier.specs.Checked.{Checked}
use Rattle.read_table.specs.declared.view.Move.{Move}
use Rattle.read_table.specs.declared.view.TableShape.{TableShape}
use Rattle.read_table.specs.Held.{Holder, TableView}
use Rattle.read_table.specs.Table.{table_of}
use Rattle.shared_runs.specs.SharedRuns.{IsSharedRun}
use Rattle.shared_runs.specs.Words.{FitsTable, UsesSubWords, loaded_of}
use Rattle.worker_pool.specs.declared.job.Job.{Job}
use Rattle.worker_pool.specs.declared.job.JobReport.{JobReport}
use Rattle.worker_pool.specs.TableJobs.{GainsJob, HasGrown, IsTableJob}

-- each program fits the table
abbrev pub AllFit : TableShape → List Checked → Type 0
AllFit k programs = All (λ c. FitsTable (table_of k) c.shapes) programs

abbrev pub moves_of_seat : Holder → List Move
moves_of_seat s = s.view.mine

-- what tells seats apart: the table, and which reader's it is
abbrev pub name_of_seat : Holder → TableView × ℕ
name_of_seat s = (s.table, s.view.me)

-- The second is the same seat, whose list has only grown.
abbrev pub HasGained : Holder → Holder → Type 0
HasGained = HasGrown moves_of_seat name_of_seat

-- A job of these programs: it has exited with the value of a shared run of its own program and context, whose moves stand as
-- one stretch in what one seat did, or was stopped.
abbrev pub IsReadJob : TableShape → List Checked → Holder → Holder → Job →
    JobReport (Unit {0}) → Type 0
IsReadJob k = IsTableJob moves_of_seat name_of_seat (λ name c. IsSharedRun (table_of k) c.shapes (loaded_of c)) UsesSubWords

-- The seat's list gained the moves that a job of these programs gives, and no others.
abbrev pub GainsReadJob : TableShape → List Checked → Holder → Holder → Job →
    JobReport (Unit {0}) → Type 0
GainsReadJob k = GainsJob moves_of_seat name_of_seat (λ name c. IsSharedRun (table_of k) c.shapes (loaded_of c))
