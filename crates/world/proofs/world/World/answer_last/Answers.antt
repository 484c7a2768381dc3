use Rattle.bpf_model.proofs.Prelude.{◌≡◌, ◌∙◌, ◌∷◌, [], ◌++◌, ◌+◌, ◌-◌, List, ℕ, length, slice_set, ap, arith, vec_len}
use Rattle.model_laws.proofs.Prelude.{Answer, Moved}
use Rattle.std.proofs.lemmas.List.{set_at}
use Rattle.world.proofs.world.World.answer_last.Goals as goal

pub returns-clause-items : goal.returns-clause-items
returns-clause-items c =
    let before : List Answer = c.args.answers.now.items in
    let last : ℕ = vec_len c.push_answer.new.answers - 1 in
    let here : length before ≡ last = let n : vec_len c.push_answer.new.answers ≡ vec_len c.args.answers.now + 1 =
    c.push_answer.ensures.len in omega (arith, n) in
    ap (λ (xs : List Answer). slice_set xs last c.apply_into.new.answer) c.push_answer.ensures.items
    ∙ set_at before Moved [] c.apply_into.new.answer last here
    ∙ ap (λ (a : Answer). before ++ a ∷ []) c.apply_into.ensures.answer
