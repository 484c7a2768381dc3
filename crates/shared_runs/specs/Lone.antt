-- A run of a program that names no map, by itself.
use Rattle.std.specs.Prelude.{◌≡◌, ℕ, ◌+◌, ◌≤◌, [], Option, Some, None}
use Rattle.bpf_model.specs.Exit.{ExitsFrom, ExitsWith, HasNoMaps}
use Rattle.bpf_model.specs.Machine.{Loaded, Run, fresh_run}
use Rattle.bpf_model.specs.Places.{StartsAt}
use Rattle.bpf_model.specs.View.{RunView}
use Rattle.model_laws.specs.Alone.{SharesNothing}
use Rattle.world_laws.specs.Described.{IsShownBy}
use Rattle.plan_laws.specs.Verified.{IsClosed, Plan}
use Rattle.verifier.specs.Checked.{Checked}
use Rattle.verifier.specs.Verdict.{IsJustified}
use Rattle.machine.specs.RunWords.{RunWords, IsAt}
use Rattle.shared_runs.specs.Words.{loaded_of}

-- the program as the machine loads it, with no maps
abbrev pub loaded_alone : Checked → Loaded
loaded_alone v = record { code = v.program; maps = []; context_len = v.ctx_len }

-- The words are those of a run of the program, which names no map: among a map of each shape each
-- plan of the program describes it. It refers to its own context and frame alone; it has moved at
-- most as often as there are instructions before its next one; and where it exits from here, it has
-- exited so from its start.
pub record StandsAlone (v : Checked) (view : RunView) : Type 0 where
  pub justified : IsJustified v
  pub without_maps : HasNoMaps v.program
  pub run : Run
  pub program : run.program ≡ loaded_of v
  pub shown : (plan : Plan) → IsClosed v.program v.shapes v.ctx_len plan →
      IsShownBy v.program v.shapes v.ctx_len plan v.shapes run view
  pub own : SharesNothing run
  pub further : (index : ℕ) → StartsAt v.program index run.state.place → run.moved ≤ index
  pub so_far : (steps n : ℕ) → ExitsFrom run steps n →
      ExitsFrom (fresh_run 0 (loaded_of v) view.context) (view.moved + steps) n

-- The run is at its code, and its words are those of a run by itself.
pub record IsLone (v : Checked) (r : RunWords) : Type 0 where
  pub at : IsAt v.program r
  pub stands : StandsAlone v r.view

-- a step that goes on, with one move more
pub record GoesOnAlone (v : Checked) (old new : RunWords) : Type 0 where
  pub lone : IsLone v new
  pub context : new.view.context ≡ old.view.context
  pub moved : new.view.moved ≡ old.view.moved + 1

-- the step that is the exit, after so many moves
pub record Finishes (v : Checked) (n : ℕ) (old new : RunWords) : Type 0 where
  pub exits : ExitsWith (loaded_alone v) old.view.context (old.view.moved + 1) n
  pub moved : new.view.moved ≡ old.view.moved

abbrev pub IsStep : Checked → RunWords → Option ℕ → RunWords → Type 0
IsStep v old None new = GoesOnAlone v old new
IsStep v old (Some n) new = Finishes v n old new
