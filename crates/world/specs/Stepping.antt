-- A step of a run, over the parts of a world: what it needs, and what it leaves.
use Rattle.std.specs.Prelude.{◌≡◌, ℕ, ◌≤◌, List, Option, Some, slice_get, slice_set}
use Rattle.bpf_model.specs.declared.event.Answer.{Answer}
use Rattle.bpf_model.specs.declared.insn.Insn.{Insn}
use Rattle.bpf_model.specs.declared.limits.TheConstants.{MAX_DEPTH}
use Rattle.bpf_model.specs.Step.{insn_at}
use Rattle.bpf_model.specs.View.{MapView, RunView, WorldView}
use Rattle.element_store.specs.Sections.{GraceState}
use Rattle.verifier.specs.Verdict.{IsJustified}
use Rattle.world_laws.specs.Local.{Asks, local_of}
use Rattle.world_laws.specs.Reacting.{insn_step}
use Rattle.machine.specs.declared.request.Request.{Request}
use Rattle.machine.specs.Requests.{request_of}
use Rattle.machine.specs.RunWords.{RunWords, IsAt}
use Rattle.machine.specs.Standing.{IsValidRun, MayGive}
use Rattle.machine.specs.Steps.{CanStep}
use Rattle.world.specs.Serving.{CanServe, HasFlag, IsReply, ShowsGrace}
use Rattle.world.specs.Serving.{world_with}
use Rattle.world.specs.declared.kept.loaded.Loaded.{Loaded}
use Rattle.world.specs.Programs.{program_of}

-- What a run asks can be served, by a word that the access can give.
pub record CanAsk (loaded : Loaded) (maps : List MapView) (v : RunView) : Type 0 where
  pub serve : (i : Insn) (request : Request) → insn_at loaded.verified.program v.place ≡ Some i →
      local_of i v ≡ Asks
      → request_of i v ≡ Some request → CanServe request loaded.maps.items maps v
  pub give : (i : Insn) (request : Request) (word : ℕ) →
      insn_at loaded.verified.program v.place ≡ Some i → local_of i v ≡ Asks
      → request_of i v ≡ Some request → IsReply request loaded.maps.items maps v word →
      MayGive loaded.verified v request word

-- The run in run slot r may make a step of its program: its depth there is that of its view, and
-- what it needs is there.
pub record CanTake (loaded : Loaded) (maps : List MapView) (g : GraceState) (r : ℕ) (run : RunWords)
    : Type 0 where
  pub stands : IsValidRun loaded.verified run
  pub step : CanStep loaded.verified run.view
  pub ask : CanAsk loaded maps run.view
  pub flag : HasFlag g r
  pub depth_is : slice_get g.depths r ≡ Some run.view.depth
  pub depth : run.view.depth ≤ MAX_DEPTH

-- The run in run slot r may make a step of its program, where the program is justified.
pub record MayTake (loaded : Loaded) (maps : List MapView) (g : GraceState) (r : ℕ) (run : RunWords)
    : Type 0 where
  pub can : IsJustified loaded.verified → CanTake loaded maps g r run

-- The run has made the step: in each world with these maps that shows these depths its instruction
-- has this answer, and leaves the world with the new parts.
pub record HasTaken (loaded : Loaded) (r : ℕ) (old new : RunWords) (maps maps_after : List MapView)
    (g after : GraceState) (answer : Answer) : Type 0 where
  pub insn : Insn
  pub here : insn_at loaded.verified.program old.view.place ≡ Some insn
  pub step : (w : WorldView) → w.maps ≡ maps → ShowsGrace w g
      → insn_step insn (program_of loaded) r old.view w
      ≡ (answer, world_with maps_after after r new.view w)
  pub depths : after.depths ≡ slice_set g.depths r new.view.depth
  pub program : new.view.program ≡ old.view.program
  pub stands : IsAt loaded.verified.program new

-- The run slot has a run of a program that may make a step.
pub record IsGoing (runs : List (Option RunWords)) (programs : List Loaded) (maps : List MapView)
    (g : GraceState) (r : ℕ) : Type 0 where
  pub run : RunWords
  pub there : slice_get runs r ≡ Some (Some run)
  pub loaded : Loaded
  pub of : slice_get programs run.view.program ≡ Some loaded
  pub may : MayTake loaded maps g r run

-- The run in run slot r has made a step, and no other run slot has changed.
pub record HasGone (runs runs_after : List (Option RunWords)) (programs : List Loaded)
    (maps maps_after : List MapView) (g after : GraceState) (r : ℕ) (answer : Answer) : Type 0 where
  pub run : RunWords
  pub there : slice_get runs r ≡ Some (Some run)
  pub loaded : Loaded
  pub of : slice_get programs run.view.program ≡ Some loaded
  pub new : RunWords
  pub runs_are : runs_after ≡ slice_set runs r (Some new)
  pub taken : HasTaken loaded r run new maps maps_after g after answer
