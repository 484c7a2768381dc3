use Rattle.bpf_model.proofs.Prelude.{◌≡◌, List, lowest_free}
use Rattle.reference_model.specs.RunState.{runs_of}
use Rattle.reference_model.specs.declared.run.Loaded.{Loaded}
use Rattle.reference_model.proofs.BySlot.{later, lowest_from}
use Rattle.reference_model.proofs.run_slots.lowest_free.Given as goal

abbrev pub invariant-loop-r : goal.invariant-loop-r
invariant-loop-r l = (programs : List Loaded) → lowest_free (runs_of programs l.runs) ≡ later l.r (lowest_from programs l.runs l.r)
