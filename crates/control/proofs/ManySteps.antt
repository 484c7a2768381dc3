-- Steps of a run, one after another.
use Rattle.bpf_model.proofs.Prelude.{◌≡◌, ◌≢◌, ◌∙◌, ◌⊎◌, ℕ, ◌+◌, ◌<◌, List, [], ◌∷◌, ◌++◌, replicate, sym, ap, refl, inl, inr, max, WorldView}
use Rattle.model_laws.proofs.Prelude.{Event, Step, Answer, Moved}
use Rattle.world.proofs.Prelude.{MakesMoves, WouldBeRefused, not_yet, once_more}
use Rattle.world_laws.proofs.Prelude.{full_reaction, full_reactions}
use Rattle.std.proofs.lemmas.List.{replicate_more}
use Rattle.bpf_model.specs.declared.event.Answer.TheVariants as answers
use Rattle.world.specs.Stretches.{WouldExit}
use Rattle.world.specs.declared.stretch.Stop.{Stop}
use Rattle.world.specs.declared.stretch.Stop.TheVariants as stops
use Rattle.world_laws.proofs.Appending.{answers_grow, view_grows}
use Rattle.control.specs.Replies.{MakesSteps}

-- so many steps were answered Moved
pub record HasMoved (w : WorldView) (run moves : ℕ) (now : WorldView) : Type 0 where
  pub answers_are : replicate moves Moved ≡ (full_reactions w (replicate moves (Step run))).0
  pub now_is : now ≡ (full_reactions w (replicate moves (Step run))).1

pub no_moves : (w : WorldView) (run : ℕ) → HasMoved w run 0 w
no_moves w run = record { answers_are = refl; now_is = refl }

pub one_move : (w v new : WorldView) (run moves : ℕ) (answer : Answer) → HasMoved w run moves v →
    answer ≡ (full_reaction v (Step run)).0 → new ≡ (full_reaction v (Step run)).1 → answer ≡ Moved →
    HasMoved w run (moves + 1) new
one_move w v new run moves answer h a n m = record {
  answers_are =
      sym (replicate_more moves Moved)
      ∙ (ap (λ (x : Answer). replicate moves Moved ++ x ∷ []) (sym m)
      ∙ (answers_grow w v (replicate moves (Step run)) (Step run) (replicate moves Moved) answer h.answers_are h.now_is a
      ∙ ap (λ (xs : List Event). (full_reactions w xs).0) (replicate_more moves (Step run))));
  now_is = view_grows w v new (replicate moves (Step run)) (Step run) h.now_is n
      ∙ ap (λ (xs : List Event). (full_reactions w xs).1) (replicate_more moves (Step run));
}

pub last_step : (w v new : WorldView) (run count moves : ℕ) (answer : Answer) → HasMoved w run moves v →
    answer ≡ (full_reaction v (Step run)).0 → new ≡ (full_reaction v (Step run)).1 → moves < max count 1 →
    (moves + 1 ≡ max count 1) ⊎ (answer ≢ Moved) → MakesSteps w run count (replicate (moves + 1) (Step run)) answer
    new
last_step w v new run count moves answer h a n few stops = record {
  moves = moves;
  steps_are = refl;
  answers_are =
      sym (answers_grow w v (replicate moves (Step run)) (Step run) (replicate moves Moved) answer h.answers_are h.now_is a
      ∙ ap (λ (xs : List Event). (full_reactions w xs).0) (replicate_more moves (Step run)));
  new_is = view_grows w v new (replicate moves (Step run)) (Step run) h.now_is n
      ∙ ap (λ (xs : List Event). (full_reactions w xs).1) (replicate_more moves (Step run));
  few = few;
  stops = stops;
}

-- a stretch of moves is so many steps
pub made_moves : (w : WorldView) (run : ℕ) (v : WorldView) (moves : ℕ) → MakesMoves run w moves v → HasMoved w run moves v
made_moves w run v moves not_yet = no_moves w run
made_moves w run v moves (once_more count mid h would) =
    one_move w mid v run count _ (made_moves w run mid count h) refl refl would

-- behind a stretch the next step is the last, or is not answered Moved
pub no_move_ahead : (v : WorldView) (run : ℕ) (stop : Stop) (answer : Answer) (P : Type 0) → answer ≡ (full_reaction v (Step run)).0 →
    (stop ≡ stops.Enough → P) → (stop ≡ stops.Exits → WouldExit v run) → (stop ≡ stops.Refused → WouldBeRefused v run) →
    P ⊎ (answer ≢ Moved)
no_move_ahead v run stops.Enough answer P a enough exits refused = inl (enough refl)
no_move_ahead v run stops.Exits answer P a enough exits refused =
    let e = exits refl in inr (λ m. let q : Moved ≡ answers.Exited e.0 = sym m ∙ (a ∙ e.1) in absurd (cc))
no_move_ahead v run stops.Refused answer P a enough exits refused =
    let e = refused refl in inr (λ m. let q : Moved ≡ answers.Refused e.0 = sym m ∙ (a ∙ e.1) in absurd (cc))
