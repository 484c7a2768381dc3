use Rattle.bpf_model.proofs.Prelude.{◌∙◌, ap, bytes_eq, texts_ties}
use Rattle.element_store.proofs.Prelude.{key_at}
use Rattle.hash_index.proofs.keys.has_key.Goals as goal

pub returns : goal.returns
returns c = c.eq.ensures ∙ (ap (bytes_eq c.args.key.now) c.key.ensures ∙ texts_ties c.args.key.now (key_at c.args.arena.now.slots c.args.slot))
