use Rattle.bpf_model.proofs.Prelude.{◌≡◌, ℕ, ◌-◌, if◌then◌else◌, is_within}
use Rattle.bpf_model.specs.declared.value.Cell.TheVariants.{Part}
use Rattle.reference_interpreter.specs.Plain.{cells_of}
use Rattle.reference_interpreter.proofs.memory.write_reference.Given as goal

abbrev pub invariant-loop-i : goal.invariant-loop-i
invariant-loop-i l = (j : ℕ) → cells_of l.frame j ≡ (if is_within l.at l.i j then Part (j - l.at) l.r else cells_of l.fn.frame j)
