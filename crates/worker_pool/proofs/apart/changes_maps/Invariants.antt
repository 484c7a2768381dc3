use Rattle.bpf_model.proofs.Prelude.{ℕ, ◌≡◌, ◌<◌, Some, slice_get}
use Rattle.bpf_model.specs.declared.insn.Insn.{Insn}
use Rattle.effects.specs.declared.region.Region.{Region}
use Rattle.worker_pool.specs.Apart.{ChangesMapAt}
use Rattle.worker_pool.proofs.apart.changes_maps.Given as goal

abbrev pub invariant-loop-index : goal.invariant-loop-index
invariant-loop-index l = (k : ℕ) (i : Insn) (r : Region) → k < l.index → slice_get l.verified.program k ≡ Some i →
    slice_get l.verified.regions k ≡ Some r → ChangesMapAt r i → ⊥
