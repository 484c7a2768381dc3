use Rattle.bpf_model.proofs.Prelude.{◌∙◌, sym}
use Rattle.hash_index.proofs.Short.{half_is}
use Rattle.hash_index.proofs.hash.half_word.Goals as goal

pub returns : goal.returns
returns c = c.from.ensures ∙ (c.from_le_bytes.ensures ∙ sym (half_is c.args.bytes.now c.requires))
