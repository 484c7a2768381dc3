-- A program is verified for the maps to which it is bound.
use Rattle.bpf_model.proofs.Prelude.{List, map, refl, get-map, Loaded, new_map}
use Rattle.model_laws.proofs.Prelude.{MapShape}
use Rattle.plan_laws.proofs.Prelude.{IsVerified, IsVerifiedFor}
use Rattle.world_laws.proofs.Prelude.{IsBoundTo}
use Rattle.world_laws.proofs.Binding.{bound-count, bound-each}

pub bound_is_verified : (shapes asked : List MapShape) (program : Loaded) → IsBoundTo shapes asked program.maps →
    IsVerified program.code asked program.context_len → IsVerifiedFor (map new_map shapes) program
bound_is_verified shapes asked program bound verified = record {
  shapes = asked;
  bound = record {
    count = bound-count shapes asked program.maps bound;
    each = λ i shape at.
        let there = bound-each shapes asked program.maps bound i shape at in
        (there.0, new_map shape, there.1, get-map new_map shapes there.0 shape there.2, refl);
  };
  verified = verified;
}
