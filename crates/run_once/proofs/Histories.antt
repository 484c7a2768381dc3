-- Histories that are one step longer.
use Rattle.bpf_model.proofs.Prelude.{◌≡◌, ◌∙◌, ℕ, zero, suc, List, [], ◌∷◌, ◌++◌, replicate, refl, sym, ap, append-nil, Machine, DoesEvent, IsHistory}
use Rattle.bpf_model.proofs.Prelude.{last_of}
use Rattle.model_laws.proofs.Prelude.{Event, Answer}
use Rattle.std.proofs.lemmas.List.{append_assoc}
use Rattle.run_once.specs.Told.{TellsStep, TellsSteps}

pub replicate-more : {A : Type 0} (n : ℕ) (x : A) → replicate n x ++ x ∷ [] ≡ replicate (suc n) x
replicate-more zero x = refl
replicate-more (suc n) x = ap (λ xs. x ∷ xs) (replicate-more n x)

pub longer : (m next : Machine) (es : List Event) (xs : List Answer) (states : List Machine) (e : Event) (x : Answer) →
    IsHistory m es xs states → DoesEvent (last_of m states) e x next →
    IsHistory m (es ++ e ∷ []) (xs ++ x ∷ []) (states ++ next ∷ [])
longer m next [] [] [] e x h does = (does, tt)
longer m next (f ∷ es) (y ∷ xs) (n ∷ states) e x h does = (h.0, longer n next es xs states e x h.1 does)
longer m next es xs states e x h does = absurd h

pub last-longer : (m next : Machine) (states : List Machine) → last_of m (states ++ next ∷ []) ≡ next
last-longer m next [] = refl
last-longer m next (n ∷ states) = last-longer n next states

-- what tells the steps is longer by what tells one
pub told-longer : (m next : Machine) (states : List Machine) (text late : List ℕ) → TellsSteps m states text →
    TellsStep (last_of m states) late → TellsSteps m (states ++ next ∷ []) (text ++ late)
told-longer m next [] text late h step = (late, [], ap (λ t. t ++ late) h ∙ sym (append-nil late), step, refl)
told-longer m next (n ∷ states) text late (first, rest, is, one, others) step = (
  first,
  rest ++ late,
  ap (λ t. t ++ late) is ∙ append_assoc first rest late,
  one,
  told-longer n next states rest late others step,
)
