use Rattle.bpf_model.proofs.Prelude.{◌∙◌, ap, sym}
use Rattle.hash_index.specs.Chains.{mixed_hash, hash_start}
use Rattle.hash_index.proofs.Short.{word_hashed}
use Rattle.hash_index.proofs.hash.word_hash.Goals as goal

pub returns : goal.returns
returns c = c.mix.ensures ∙ (ap (mixed_hash hash_start) c.word_at_start.ensures ∙ sym (word_hashed c.args.key.now c.requires))
