use Rattle.bpf_model.proofs.Prelude.{◌≡◌, ℕ, ◌<◌, slice_get, Some}
use Rattle.plan_laws.proofs.Prelude.{IsVerified}
use Rattle.world.proofs.Prelude.{program_of}
use Rattle.world_laws.proofs.Prelude.{IsRealProgram}
use Rattle.world.specs.declared.kept.loaded.Loaded.{Loaded}
use Rattle.world.proofs.binding.certify_programs.Given as goal

abbrev pub invariant-loop-program : goal.invariant-loop-program
invariant-loop-program l = record {
  verified : (p : ℕ) (x : Loaded) → p < l.program-index → slice_get l.loaded p ≡ Some x → IsVerified x.verified.program x.verified.shapes x.verified.ctx_len;
  real : (p : ℕ) (x : Loaded) → p < l.program-index → slice_get l.loaded p ≡ Some x → IsRealProgram (program_of x);
}
