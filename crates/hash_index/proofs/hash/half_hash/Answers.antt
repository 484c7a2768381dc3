use Rattle.bpf_model.proofs.Prelude.{◌∙◌, ap, sym}
use Rattle.hash_index.specs.Chains.{mixed_hash, hash_start}
use Rattle.hash_index.proofs.Short.{half_hashed}
use Rattle.hash_index.proofs.hash.half_hash.Goals as goal

pub returns : goal.returns
returns c = c.mix.ensures ∙ (ap (mixed_hash hash_start) c.half_word.ensures ∙ sym (half_hashed c.args.key.now c.requires))
