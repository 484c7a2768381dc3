use Rattle.bpf_model.proofs.Prelude.{arith}
use Rattle.hash_index.proofs.Short.{half_told}
use Rattle.hash_index.proofs.keys.same_halves.Goals as goal

pub returns : goal.returns
returns c = half_told c.args.left.now c.args.right.now _ _ c.requires.left c.requires.right
    (λ i. omega (arith, c.type_inv.left i)) (λ i. omega (arith, c.type_inv.right i)) c.half_word.ensures
    c.half_word-2.ensures
