use Rattle.bpf_model.proofs.Prelude.{◌≡◌, ◌++◌, List, map, drop, is_open, open_flags}
use Rattle.reference_model.specs.declared.run.Loaded.{Loaded}
use Rattle.reference_model.specs.RunState.{runs_of}
use Rattle.reference_model.proofs.run_slots.open_flags.Given as goal

abbrev pub invariant-loop-r : goal.invariant-loop-r
invariant-loop-r l = (programs : List Loaded) → open_flags (runs_of programs l.runs) ≡ l.flags.items ++ map is_open (drop l.r (runs_of programs l.runs))
