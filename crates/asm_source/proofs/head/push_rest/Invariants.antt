use Rattle.bpf_model.proofs.Prelude.{◌≡◌, ◌++◌, ◌∷◌, length}
use Rattle.std.specs.Prelude.{flat_map}
use Rattle.asm_source.proofs.head.push_rest.Given as goal

abbrev pub invariant-loop-token : goal.invariant-loop-token
invariant-loop-token l =
    l.out.items ++ flat_map (λ token. 32 ∷ token) l.tokens ≡
    l.initial.out.items ++ flat_map (λ token. 32 ∷ token) l.initial.tokens

abbrev pub decreases-loop-token : goal.decreases-loop-token
decreases-loop-token l = length l.tokens
