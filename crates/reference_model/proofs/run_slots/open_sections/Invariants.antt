use Rattle.bpf_model.proofs.Prelude.{◌≡◌, List, take, open_sections}
use Rattle.reference_store.specs.State.{sections_of}
use Rattle.reference_model.specs.RunState.{runs_of}
use Rattle.reference_model.specs.declared.run.Loaded.{Loaded}
use Rattle.reference_model.proofs.run_slots.open_sections.Given as goal

abbrev pub invariant-loop-r : goal.invariant-loop-r
invariant-loop-r l = (programs : List Loaded) → sections_of l.sections.items ≡ open_sections (runs_of programs (take l.r l.runs))
