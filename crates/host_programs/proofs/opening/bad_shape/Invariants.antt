use Rattle.bpf_model.proofs.Prelude.{◌≡◌, ◌<◌, ℕ, Some, slice_get, IsShape}
use Rattle.model_laws.proofs.Prelude.{MapShape}
use Rattle.host_programs.proofs.opening.bad_shape.Given as goal

abbrev pub invariant-loop-number : goal.invariant-loop-number
invariant-loop-number l = (k : ℕ) (shape : MapShape) → k < l.number → slice_get l.shapes k ≡ Some shape → IsShape shape
