use Rattle.bpf_model.proofs.Prelude.{environment_of}
use Rattle.reference_interpreter.specs.Plain.{plain_state_of}
use Rattle.reference_interpreter.specs.Runs.{Walks}
use Rattle.reference_interpreter.proofs.plain_run.PlainRun.run.Given as goal

abbrev pub invariant-loop-done : goal.invariant-loop-done
invariant-loop-done l = Walks l.program (environment_of l.context l.maps) (plain_state_of l.fn.self) l.done (plain_state_of l.self)
