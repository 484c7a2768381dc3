-- Answers to events, and the world after them, where further events come behind.
use Rattle.bpf_model.proofs.Prelude.{◌≡◌, ◌∙◌, List, [], ◌∷◌, ◌++◌, refl, sym, ap, WorldView}
use Rattle.model_laws.proofs.Prelude.{Event, Answer}
use Rattle.world_laws.proofs.Prelude.{full_reaction, full_reactions}

pub answers_append : (w : WorldView) (first rest : List Event) →
    (full_reactions w (first ++ rest)).0 ≡ (full_reactions w first).0 ++
    (full_reactions (full_reactions w first).1 rest).0
answers_append w [] rest = refl
answers_append w (event ∷ events) rest = ap (λ (answers : List Answer). (full_reaction w event).0 ∷ answers)
    (answers_append (full_reaction w event).1 events rest)

pub view_append : (w : WorldView) (first rest : List Event) → (full_reactions w (first ++ rest)).1 ≡ (full_reactions (full_reactions w first).1 rest).1
view_append w [] rest = refl
view_append w (event ∷ events) rest = view_append (full_reaction w event).1 events rest

-- one event more
pub answers_grow : (w v : WorldView) (before : List Event) (event : Event) (answers : List Answer) (answer : Answer) →
    answers ≡ (full_reactions w before).0 → v ≡ (full_reactions w before).1 → answer ≡ (full_reaction v event).0 →
    answers ++ answer ∷ [] ≡ (full_reactions w (before ++ event ∷ [])).0
answers_grow w v before event answers answer are view is =
    let last : answer ≡ (full_reaction (full_reactions w before).1 event).0 = is ∙ ap (λ (u : WorldView). (full_reaction u event).0) view in
    let first = ap (λ (xs : List Answer). xs ++ answer ∷ []) are in
    let second = ap (λ (x : Answer). (full_reactions w before).0 ++ x ∷ []) last in
    first ∙ (second ∙ sym (answers_append w before (event ∷ [])))

pub view_grows : (w v new : WorldView) (before : List Event) (event : Event) → v ≡ (full_reactions w before).1 →
    new ≡ (full_reaction v event).1 → new ≡ (full_reactions w (before ++ event ∷ [])).1
view_grows w v new before event view is =
    is ∙ (ap (λ (u : WorldView). (full_reaction u event).1) view ∙ sym (view_append w before (event ∷ [])))
