use Rattle.bpf_model.proofs.Prelude.{◌∙◌, List, ℕ, length, sym, ap, bytes_eq, texts_ties, other-same_key}
use Rattle.element_store.proofs.Prelude.{key_at}
use Rattle.hash_index.proofs.keys.has_word.Goals as goal

pub returns-then-held-eq-WORD_BYTES : goal.returns-then-held-eq-WORD_BYTES
returns-then-held-eq-WORD_BYTES c = c.same_words.ensures ∙
    (ap (bytes_eq c.args.key.now) c.key-held.ensures ∙
    texts_ties c.args.key.now (key_at c.args.arena.now.slots c.args.slot))

pub returns-else-held-eq-WORD_BYTES : goal.returns-else-held-eq-WORD_BYTES
returns-else-held-eq-WORD_BYTES c = sym (other-same_key c.args.key.now (key_at c.args.arena.now.slots c.args.slot)
    (λ e. c.if-held-eq-WORD_BYTES.false (ap (λ (l : List ℕ). length l) (c.key-held.ensures ∙ sym e) ∙
    c.requires.word)))
