use Rattle.bpf_model.proofs.Prelude.{◌∙◌, List, ℕ, length, sym, ap, bytes_eq, texts_ties, other-same_key}
use Rattle.element_store.proofs.Prelude.{key_at}
use Rattle.hash_index.proofs.keys.has_half.Goals as goal

pub returns-then-held-eq-HALF_BYTES : goal.returns-then-held-eq-HALF_BYTES
returns-then-held-eq-HALF_BYTES c = c.same_halves.ensures ∙
    (ap (bytes_eq c.args.key.now) c.key-held.ensures ∙
    texts_ties c.args.key.now (key_at c.args.arena.now.slots c.args.slot))

pub returns-else-held-eq-HALF_BYTES : goal.returns-else-held-eq-HALF_BYTES
returns-else-held-eq-HALF_BYTES c = sym (other-same_key c.args.key.now (key_at c.args.arena.now.slots c.args.slot)
    (λ e. c.if-held-eq-HALF_BYTES.false (ap (λ (l : List ℕ). length l) (c.key-held.ensures ∙ sym e) ∙
    c.requires.half)))
