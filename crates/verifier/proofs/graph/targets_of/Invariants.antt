use Rattle.bpf_model.proofs.Prelude.{◌≡◌, ℕ, ◌<◌, ◌≤◌, length, vec_capacity, slice_get, Some, None, StartsAt}
use Rattle.model_laws.proofs.Prelude.{Insn}
use Rattle.verifier.proofs.Prelude.{jump_flaw, HasTargets}
use Rattle.verifier.proofs.graph.targets_of.Given as goal

abbrev pub invariant-loop-index : goal.invariant-loop-index
invariant-loop-index l = record {
  long : length l.targets.items ≡ l.index;
  room : length l.instructions ≤ vec_capacity l.targets;
  targets : HasTargets l.instructions l.targets.items;
  jumps : (j p : ℕ) (i : Insn) → j < l.index → slice_get l.instructions j ≡ Some i → StartsAt l.instructions j p → jump_flaw l.instructions p i ≡ None;
}
