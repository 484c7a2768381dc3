use Rattle.bpf_model.proofs.Prelude.{refl, inl, inr, arith}
use Rattle.system_tests.proofs.standing.element_word.Goals as goal

pub returns-then-found : goal.returns-then-found
returns-then-found c =
    λ checked v. rw c.requires (inr (record { map = 0; slot = 0; few_maps = omega arith; few_slots = omega arith; is = refl }))

pub returns : goal.returns
returns c = λ checked v. rw c.requires (inl refl)
