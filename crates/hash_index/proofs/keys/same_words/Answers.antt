use Rattle.bpf_model.proofs.Prelude.{arith}
use Rattle.hash_index.proofs.Short.{word_told}
use Rattle.hash_index.proofs.keys.same_words.Goals as goal

pub returns : goal.returns
returns c = word_told c.args.left.now c.args.right.now _ _ c.requires.left c.requires.right
    (λ i. omega (arith, c.type_inv.left i)) (λ i. omega (arith, c.type_inv.right i)) c.word_at_start.ensures
    c.word_at_start-2.ensures
