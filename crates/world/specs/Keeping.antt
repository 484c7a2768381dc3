-- What is kept of a world: each run at its code, for each how deep it is inside sections, and each
-- program bound to the maps.
use Rattle.std.specs.Prelude.{◌≡◌, ℕ, Bool, List, length, map, Option, Some, None, slice_get}
use Rattle.std.specs.Prelude.{option_map}
use Rattle.bpf_model.specs.declared.limits.TheConstants.{MAX_RUNS}
use Rattle.bpf_model.specs.View.{MapView, RunView, WorldView, shapes_of_maps}
use Rattle.element_store.specs.Sections.{GraceState, is_open_depth, opened_in}
use Rattle.machine.specs.RunWords.{RunWords, IsAt}
use Rattle.world.specs.declared.kept.loaded.Loaded.{Loaded}
use Rattle.world.specs.BoundTo.{AreProgramsBound}
use Rattle.world.specs.Programs.{programs_in}

-- what the world's view shows of a run slot
abbrev pub view_of : Option RunWords → Option RunView
view_of o = option_map (λ r. r.view) o

-- how many locks of the run of a run slot are open: none where it has no run
abbrev pub depth_of_run : Option RunWords → ℕ
depth_of_run None = 0
depth_of_run (Some run) = run.view.depth

-- whether the run of a run slot is inside a section
abbrev pub is_run_inside : Option RunWords → Bool
is_run_inside o = is_open_depth (depth_of_run o)

-- The run's program is there, and the run is at its code.
pub record IsOfProgram (programs : List Loaded) (run : RunWords) : Type 0 where
  pub program : Loaded
  pub there : slice_get programs run.view.program ≡ Some program
  pub stands : IsAt program.verified.program run

-- There is a run slot for each run that there may be. How deep each run is inside sections is what
-- its view says, and each run is of a program.
pub record AreRunsKept (runs : List (Option RunWords)) (grace : GraceState) (programs : List Loaded)
    : Type 0 where
  pub slots : length runs ≡ MAX_RUNS
  pub depths : grace.depths ≡ map depth_of_run runs
  pub of_program : (r : ℕ) (run : RunWords) → slice_get runs r ≡ Some (Some run) →
      IsOfProgram programs run

-- The runs are kept, and each program is bound to the maps that there are.
pub record IsKept (maps : List MapView) (runs : List (Option RunWords)) (grace : GraceState)
    (programs : List Loaded) : Type 0 where
  pub of_runs : AreRunsKept runs grace programs
  pub bound : AreProgramsBound (shapes_of_maps maps) programs

-- whether a run slot is occupied, as a byte
abbrev pub flag_of : Option RunWords → ℕ
flag_of None = 0
flag_of (Some run) = 1

-- The parts of a world are kept, and for each run slot a byte that says whether it is occupied.
pub record ArePartsKept (maps : List MapView) (runs : List (Option RunWords)) (flags : List ℕ) (grace : GraceState)
    (programs : List Loaded) : Type 0 where
  pub kept : IsKept maps runs grace programs
  pub flagged : flags ≡ map flag_of runs

abbrev pub world_of : List (List ℕ) → List MapView → List (Option RunWords) → GraceState →
    List Loaded → ℕ → WorldView
world_of names maps runs grace programs given = record {
  names = names;
  maps = maps;
  runs = map view_of runs;
  opened = opened_in grace;
  awaited = grace.awaited;
  programs = programs_in programs;
  given = given;
}

-- no run is in the run slot
abbrev pub HasNoRun : List (Option RunWords) → ℕ → Type 0
HasNoRun runs r = (run : RunWords) → slice_get runs r ≡ Some (Some run) → ⊥
