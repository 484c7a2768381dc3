-- A run that shares nothing has one step at most.
use Rattle.bpf_model.proofs.Prelude.{◌≡◌, List, [], refl, none-some, Section, Store, Run, RunStep, oldest-none}
use Rattle.model_laws.proofs.Prelude.{Answer, SharesNothing}
use Rattle.model_laws.proofs.Deciding.{run-one}
use Rattle.model_laws.proofs.Alone.{others_change_nothing}

-- one step: where no element is, every lookup and every birth has one answer
abbrev pub no_maps : Store
no_maps = record { elements = []; maps = [] }

pub one_step_alone : (store new_store other other_store : Store) (opened sections : List Section) (run new next : Run) (a b : Answer) → SharesNothing run →
    RunStep store opened run a new_store new → RunStep other sections run b other_store next → (a ≡ b) × (new ≡ next)
one_step_alone store new_store other other_store opened sections run new next a b p h g =
    let x = (others_change_nothing store new_store opened run new a p h).1 no_maps [] in
    let y = (others_change_nothing other other_store sections run next b p g).1 no_maps [] in
    let one = run-one no_maps [] run a b no_maps no_maps new next
    (λ map key n k l r. absurd (none-some l.element l.born)) (oldest-none no_maps no_maps refl)
    (oldest-none no_maps no_maps refl) x y in
    (one.0, one.2)
