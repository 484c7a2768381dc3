-- The exits that a program may have among the maps for which it was verified. (Those that it has whatever the maps are:
-- `ExitsWith`.)
use Rattle.std.specs.Prelude.{ℕ, suc, List}
use Rattle.bpf_model.specs.declared.event.Answer.TheVariants.{Moved, Exited}
use Rattle.bpf_model.specs.declared.limits.MapShape.{MapShape}
use Rattle.bpf_model.specs.Section.{Section}
use Rattle.bpf_model.specs.MapState.{Store}
use Rattle.bpf_model.specs.Machine.{Loaded, Run, fresh_run}
use Rattle.bpf_model.specs.MachineStep.{RunStep}
use Rattle.plan_laws.specs.Verified.{Surrounds}

-- The run may exit with a number after so many steps. Before each of them some maps and open sections surround it, as
-- those do for which its program was verified; the maps of its list have these shapes all along.
pub data MayExitFrom (shapes : List MapShape) : Run → ℕ → ℕ → Type 0 where
  may_exit_now : (store new_store : Store) (opened : List Section) (run new : Run) (n : ℕ) →
      Surrounds shapes run.program.context_len store opened run →
      RunStep store opened run (Exited n) new_store new → MayExitFrom shapes run 1 n
  may_exit_later : (store new_store : Store) (opened : List Section) (run next : Run)
      (steps n : ℕ) → Surrounds shapes run.program.context_len store opened run →
      RunStep store opened run Moved new_store next → MayExitFrom shapes next steps n →
      MayExitFrom shapes run (suc steps) n

abbrev pub MayExitWith : List MapShape → Loaded → List ℕ → ℕ → ℕ → Type 0
MayExitWith shapes program context steps n =
    (name : ℕ) × MayExitFrom shapes (fresh_run name program context) steps n
