-- Histories of the machine, cut and joined.
use Rattle.bpf_model.proofs.Prelude.{◌≡◌, List, [], ◌∷◌, ◌++◌, length, refl, sym, ◌∙◌, ap, subst, arith, ◌↔◌, Machine, IsHistory, last_of, HasHistoryTo}
use Rattle.model_laws.proofs.Prelude.{Event, Answer}

-- a history of two lists of events is one of the first, and one of the second from its last state
cut : (m new : Machine) (es fs : List Event) (xs ys : List Answer) (states : List Machine) →
    length es ≡ length xs → IsHistory m (es ++ fs) (xs ++ ys) states → last_of m states ≡ new →
    (mid : Machine) × HasHistoryTo m es xs mid × HasHistoryTo mid fs ys new
cut m new [] fs [] ys states h run last = (m, ([], tt, refl), (states, run, last))
cut m new [] fs (x ∷ xs) ys states h run last = absurd (omega arith)
cut m new (e ∷ es) fs [] ys states h run last = absurd (omega arith)
cut m new (e ∷ es) fs (x ∷ xs) ys [] h run last = absurd run
cut m new (e ∷ es) fs (x ∷ xs) ys (next ∷ states) h run last =
    let c = cut next new es fs xs ys states (omega arith) run.1 last in
    let first = c.1 in
    (c.0, (next ∷ first.0, (run.0, first.1), first.2), c.2)

-- and two histories of which one begins where the other ends are one
joined : (m new : Machine) (es fs : List Event) (xs ys : List Answer) (states later : List Machine)
    → length es ≡ length xs → IsHistory m es xs states → IsHistory (last_of m states) fs ys later →
    last_of (last_of m states) later ≡ new → HasHistoryTo m (es ++ fs) (xs ++ ys) new
joined m new [] fs [] ys [] later h run more last = (later, more, last)
joined m new [] fs [] ys (next ∷ states) later h run more last = absurd run
joined m new [] fs (x ∷ xs) ys states later h run more last = absurd (omega arith)
joined m new (e ∷ es) fs [] ys states later h run more last = absurd (omega arith)
joined m new (e ∷ es) fs (x ∷ xs) ys [] later h run more last = absurd run
joined m new (e ∷ es) fs (x ∷ xs) ys (next ∷ states) later h run more last =
    let r = joined next new es fs xs ys states later (omega arith) run.1 more last in
    (next ∷ r.0, (run.0, r.1), r.2)

pub cut_anywhere : (m new : Machine) (es fs : List Event) (xs ys : List Answer) →
    length es ≡ length xs → HasHistoryTo m (es ++ fs) (xs ++ ys) new
    ↔ ((mid : Machine) × HasHistoryTo m es xs mid × HasHistoryTo mid fs ys new)
cut_anywhere m new es fs xs ys h = (
  λ whole. cut m new es fs xs ys whole.0 h whole.1 whole.2,
  λ parts.
      let first = parts.1 in
      let second = parts.2 in
      let start : IsHistory (last_of m first.0) fs ys second.0 = subst (λ x. IsHistory x fs ys second.0) (sym first.2) second.1 in
      joined m new es fs xs ys first.0 second.0 h first.1 start (ap (λ x. last_of x second.0) first.2 ∙ second.2),
)
