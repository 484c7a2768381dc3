-- What a run over a table leaves at its seat, and what is so between its steps.
use Rattle.std.specs.Prelude.{◌≡◌, ℕ, ◌≤◌, List, ◌++◌, length}
use Rattle.verifier.specs.Checked.{Checked}
use Rattle.machine.specs.RunWords.{RunWords}
use Rattle.shared_runs.specs.SharedRuns.{IsSharedRun}
use Rattle.shared_runs.specs.Sharing.{HasCome}
use Rattle.shared_runs.specs.Tables.{Table}
use Rattle.shared_runs.specs.Words.{loaded_of}

-- The seat's list gained the moves of a shared run of the program on the context, which exits with the value, within as
-- many steps as the program has instructions.
pub record RunsOver {Seat : Type 0} (k : Table) (Goes : Seat → List k.Move → Seat → Type 0)
    (c : Checked) (context : List ℕ) (old new : Seat) (value : ℕ) : Type 0 where
  pub moves : List k.Move
  pub steps : ℕ
  pub list : Goes old moves new
  pub exit : IsSharedRun k c.shapes (loaded_of c) context moves steps value
  pub bounded : steps ≤ length c.program

-- Since this start the seat has done what a shared run of these words asked, and no more.
pub record HasComeTo {Seat : Type 0} (k : Table) (Goes : Seat → List k.Move → Seat → Type 0)
    (c : Checked) (context : List ℕ) (start now : Seat) (r : RunWords) : Type 0 where
  pub moves : List k.Move
  pub goes : Goes start moves now
  pub come : HasCome k c context moves r

-- The seat's list gained the moves of such a run, which has exited with the value within so many steps.
pub record HasRun {Seat Move : Type 0} (mine : Seat → List Move) (IsRun : List Move → ℕ → ℕ → Type 0)
    (most : ℕ) (old new : Seat) (value : ℕ) : Type 0 where
  pub moves : List Move
  pub steps : ℕ
  pub list : mine new ≡ moves ++ mine old
  pub run : IsRun moves steps value
  pub bounded : steps ≤ most
