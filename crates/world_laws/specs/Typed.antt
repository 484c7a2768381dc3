-- Programs as values of their types, and what a world keeps beside tracking a schedule.
use Rattle.std.specs.Prelude.{◌≡◌, ℕ, ◌<◌, ◌≤◌, List, length, Some, None, slice_get}
use Rattle.bpf_model.specs.declared.insn.Insn.{Insn}
use Rattle.bpf_model.specs.declared.limits.TheConstants.{MAX_MAPS}
use Rattle.bpf_model.specs.declared.value.Reference.{Reference}
use Rattle.bpf_model.specs.declared.value.Reference.TheVariants.{Ctx, Frame, MapRef, Elem}
use Rattle.bpf_model.specs.Machine.{Loaded, Run, Machine, run_at}
use Rattle.bpf_model.specs.Shapes.{AreShapes}
use Rattle.bpf_model.specs.Schedule.{Schedule}
use Rattle.bpf_model.specs.Spelling.{FitsInsn}
use Rattle.bpf_model.specs.View.{RunView, WorldView, shapes_of}
use Rattle.model_laws.specs.Holds.{HoldsState}
use Rattle.plan_laws.specs.Well.{IsWell, AreVerified}
use Rattle.model_laws.specs.Matching.{Matches}

-- A program is a value of its type: its instructions name registers and numbers that there are (in
-- a definition they would else be any), and its list of maps has a limit.
pub record IsRealProgram (program : Loaded) : Type 0 where
  pub code : (k : ℕ) (i : Insn) → slice_get program.code k ≡ Some i →
      FitsInsn i
  pub maps : length program.maps ≤ MAX_MAPS

abbrev pub AreRealPrograms : List Loaded → Type 0
AreRealPrograms programs =
    (p : ℕ) (program : Loaded) → slice_get programs p ≡ Some program → IsRealProgram program

-- A reference to a map is to one of the program's list.
abbrev pub IsListed : ℕ → Reference → Type 0
IsListed count (Ctx o) = Unit {0}
IsListed count (Frame o) = Unit {0}
IsListed count (MapRef m) = m < count
IsListed count (Elem n o) = Unit {0}

-- each reference to a map that a run of the machine holds is to one of its program's list
abbrev pub AreListed : Machine → Type 0
AreListed m = (r : ℕ) (run : Run) → run_at m.runs r ≡ Some run →
    HoldsState (IsListed (length run.program.maps)) run.state

-- What a world is asked for, beside that it tracks a schedule: verified programs, all of their
-- types, and no more maps than there may be.
pub record IsReadyWorld (w : WorldView) : Type 0 where
  pub verified : AreVerified (shapes_of w) w.programs
  pub programs : AreRealPrograms w.programs
  pub maps : length w.maps ≤ MAX_MAPS

-- The machine's runs are of verified programs, and what the world keeps of them is within its
-- limits.
pub record IsSound (w : WorldView) (s : Schedule) : Type 0 where
  pub well : IsWell s.machine
  pub listed : AreListed s.machine
  pub limits : AreShapes (shapes_of w)
  pub maps : length w.maps ≤ MAX_MAPS
  pub programs : AreRealPrograms w.programs

-- What the step of a run may take for granted: a schedule that the world matches, and for which it
-- is sound.
pub record IsMatched (w : WorldView) : Type 0 where
  pub schedule : Schedule
  pub matches : Matches w schedule
  pub sound : IsSound w schedule

-- A run that hasn't ended, with what the world keeps of it.
pub record IsRunning (w : WorldView) (s : Schedule) (r : ℕ) (run : Run) (v : RunView) : Type 0 where
  pub there : run_at s.machine.runs r ≡ Some run
  pub shown : slice_get w.runs r ≡ Some (Some v)
  pub going : run.exit ≡ None
