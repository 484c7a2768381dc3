use Rattle.bpf_model.proofs.Prelude.{◌≡◌, ℕ, ◌<◌}
use Rattle.bpf_model.specs.declared.value.Cell.TheVariants.{Unwritten}
use Rattle.reference_interpreter.specs.Plain.{cells_of}
use Rattle.reference_interpreter.proofs.plain_run.clear.Given as goal

abbrev pub invariant-loop-cell : goal.invariant-loop-cell
invariant-loop-cell l = (j : ℕ) → j < l.cell-index → cells_of l.frame j ≡ Unwritten
