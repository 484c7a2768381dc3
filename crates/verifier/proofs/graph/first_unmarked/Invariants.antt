use Rattle.bpf_model.proofs.Prelude.{◌≡◌, ℕ, ◌<◌, length, true, slice_get, Some, Option}
use Rattle.model_laws.proofs.Prelude.{Insn}
use Rattle.verifier.proofs.Prelude.{Follows, IsInsnReached}
use Rattle.verifier.proofs.graph.first_unmarked.Given as goal

abbrev pub invariant-loop-index : goal.invariant-loop-index
invariant-loop-index l = record {
  long : length l.reached ≡ length l.instructions;
  first : slice_get l.reached 0 ≡ Some true;
  sound : (j : ℕ) → slice_get l.reached j ≡ Some true → IsInsnReached l.instructions j;
  before : (j : ℕ) → j < l.index → IsInsnReached l.instructions j;
  ahead : (j m : ℕ) (i : Insn) (t : Option ℕ) → j < l.index → slice_get l.instructions j ≡ Some i →
      slice_get l.targets j ≡ Some t → Follows i t j m → slice_get l.reached m ≡ Some true;
}
