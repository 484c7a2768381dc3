-- Elements are reclaimed late: the grace-period guarantee.
use Rattle.bpf_model.proofs.Prelude.{◌≡◌, ℕ, zero, suc, ◌<◌, List, [], ◌∷◌, Some, ◌⊎◌, inl, inr, sym, ap, ◌∙◌, arith, subst, Bool, slice_get, none-some}
use Rattle.bpf_model.proofs.Prelude.{same_Some, same-since, Section, AllEnded, Element, Life, Linked, Unlinked, Reclaimed, HasLife, Machine, open_sections}
use Rattle.bpf_model.proofs.Prelude.{DoesEvent, IsHistory}
use Rattle.model_laws.proofs.Prelude.{Event, Answer, IsConsistent, AllBegun}
use Rattle.bpf_model.specs.Headline.{ReclaimedLate}
use Rattle.model_laws.proofs.Moves.{does-move}
use Rattle.model_laws.proofs.Changing.{is_reap}
use Rattle.model_laws.proofs.Stores.{LifeMoves, Stays, Unlinks, Ends, does-moves}
use Rattle.model_laws.proofs.Past.{all-begun-later, ended-later}
use Rattle.model_laws.proofs.Keeping.{stays_consistent}
use Rattle.model_laws.proofs.Between.{between-along}
use Rattle.model_laws.proofs.Lives.{linked≢unlinked, reclaimed≢unlinked}

-- what was linked and is unlinked after a step has the sections that were open
life-unlinked : (reap : Bool) (opened since : List Section) (old new : Life) → LifeMoves reap opened old new →
    old ≡ Linked → new ≡ Unlinked since → since ≡ opened
life-unlinked reap opened since old new (Stays e) h g = absurd (linked≢unlinked since (sym h ∙ (sym e ∙ g)))
life-unlinked reap opened since old new (Unlinks l e) h g = sym (same-since opened since (sym e ∙ g))
life-unlinked reap opened since old new (Ends past r l ended e) h g = absurd (reclaimed≢unlinked since (sym e ∙ g))

unlinked-now : (m new : Machine) (event : Event) (answer : Answer) (n : ℕ) (since : List Section) → IsConsistent m →
    DoesEvent m event answer new → HasLife m.store.elements n Linked → HasLife new.store.elements n (Unlinked since) →
    since ≡ open_sections m.runs
unlinked-now m new event answer n since w h old now =
    let f = (does-moves m new event answer w.single w.lengths h).forth n old.0 old.1 in
    let same : f.0 ≡ now.0 = same_Some f.0 now.0 (sym f.1 ∙ now.1) in
    life-unlinked (is_reap event) (open_sections m.runs) since old.0.life f.0.life f.2.life old.2 (ap (λ x. x.life) same ∙ now.2)

-- what is unlinked stays so until its sections have ended
abbrev pub Kept : Machine → ℕ → List Section → Type 0
Kept m n since = HasLife m.store.elements n (Unlinked since) ⊎ AllEnded since (open_sections m.runs)

life-kept : (reap : Bool) (opened since : List Section) (old new : Life) → LifeMoves reap opened old new →
    old ≡ Unlinked since → (new ≡ Unlinked since) ⊎ AllEnded since opened
life-kept reap opened since old new (Stays e) h = inl (e ∙ h)
life-kept reap opened since old new (Unlinks l e) h = absurd (linked≢unlinked since (sym l ∙ h))
life-kept reap opened since old new (Ends past r l ended e) h = inr (subst (λ x. AllEnded x opened) (same-since past since (sym l ∙ h)) ended)

kept-next : (m new : Machine) (event : Event) (answer : Answer) (n : ℕ) (since : List Section) → IsConsistent m →
    DoesEvent m event answer new → HasLife m.store.elements n (Unlinked since) →
    HasLife new.store.elements n (Unlinked since) ⊎ AllEnded since (open_sections m.runs)
kept-next m new event answer n since w h old =
    let f = (does-moves m new event answer w.single w.lengths h).forth n old.0 old.1 in
    elim (life-kept (is_reap event) (open_sections m.runs) since old.0.life f.0.life f.2.life old.2) [
      | inl x ↦ inl (f.0, f.1, x)
      | inr x ↦ inr x
    ]

kept-step : (m new : Machine) (event : Event) (answer : Answer) (n : ℕ) (since : List Section) → IsConsistent m →
    AllBegun m since → DoesEvent m event answer new → Kept m n since → Kept new n since
kept-step m new event answer n since w all h (inr ended) = inr (ended-later m new since (does-move m new event answer h) all ended)
kept-step m new event answer n since w all h (inl old) = elim (kept-next m new event answer n since w h old) [
  | inl x ↦ inl x
  | inr x ↦ inr (ended-later m new since (does-move m new event answer h) all x)
]

kept-along : (m : Machine) (events : List Event) (answers : List Answer) (states : List Machine) (n : ℕ)
    (since : List Section) → IsConsistent m → AllBegun m since → Kept m n since → IsHistory m events answers states →
    (j : ℕ) (later : Machine) → slice_get (m ∷ states) j ≡ Some later → Kept later n since
kept-along m events answers states n since w all k h zero later at = subst (λ x. Kept x n since) (same_Some m later at) k
kept-along m [] [] [] n since w all k h (suc j) later at = absurd (none-some later at)
kept-along m (event ∷ events) (answer ∷ answers) (next ∷ states) n since w all k h (suc j) later at =
    kept-along next events answers states n since (stays_consistent m next event answer w h.0)
    (all-begun-later m next since (does-move m next event answer h.0) all)
    (kept-step m next event answer n since w all h.0 k) h.1 j later at
kept-along m events answers states n since w all k h (suc j) later at = absurd h

not-reclaimed : (es : List Element) (n : ℕ) (since : List Section) → HasLife es n (Unlinked since) → HasLife es n Reclaimed → ⊥
not-reclaimed es n since h g =
    let same : h.0 ≡ g.0 = same_Some h.0 g.0 (sym h.1 ∙ g.1) in
    reclaimed≢unlinked since (sym g.2 ∙ (ap (λ x. x.life) (sym same) ∙ h.2))

kept-reclaimed : (m : Machine) (n : ℕ) (since : List Section) → Kept m n since → HasLife m.store.elements n Reclaimed → AllEnded since (open_sections m.runs)
kept-reclaimed m n since (inl h) g = absurd (not-reclaimed m.store.elements n since h g)
kept-reclaimed m n since (inr h) g = h

-- the sections that it keeps, at any step
keeps-along : (m : Machine) (events : List Event) (answers : List Answer) (states : List Machine) → IsConsistent m →
    IsHistory m events answers states → (i n : ℕ) (before after : Machine) (since : List Section) →
    slice_get (m ∷ states) i ≡ Some before → slice_get (m ∷ states) (suc i) ≡ Some after →
    HasLife before.store.elements n Linked → HasLife after.store.elements n (Unlinked since) →
    since ≡ open_sections before.runs
keeps-along m [] [] [] w h i n before after since ai bi la lb = absurd (none-some after bi)
keeps-along m (event ∷ events) (answer ∷ answers) (next ∷ states) w h zero n before after since ai bi la lb =
    let a : m ≡ before = same_Some m before ai in
    let b : next ≡ after = same_Some next after bi in
    unlinked-now m next event answer n since w h.0 (subst (λ (x : Machine). HasLife x.store.elements n Linked) (sym a)
    la) (subst (λ (x : Machine). HasLife x.store.elements n (Unlinked since)) (sym b) lb) ∙
    ap (λ (x : Machine). open_sections x.runs) a
keeps-along m (event ∷ events) (answer ∷ answers) (next ∷ states) w h (suc i) n before after since ai bi la lb =
    keeps-along next events answers states (stays_consistent m next event answer w h.0) h.1 i n before after since ai bi la lb
keeps-along m events answers states w h i n before after since ai bi la lb = absurd h

-- from the state where it is unlinked
ended-from : (m : Machine) (events : List Event) (answers : List Answer) (states : List Machine) → IsConsistent m →
    IsHistory m events answers states → (j n : ℕ) (later : Machine) (since : List Section) →
    slice_get (m ∷ states) j ≡ Some later → HasLife m.store.elements n (Unlinked since) →
    HasLife later.store.elements n Reclaimed → AllEnded since (open_sections later.runs)
ended-from m events answers states w h j n later since at unlinked reclaimed =
    kept-reclaimed later n since (kept-along m events answers states n since w
    (w.begun n unlinked.0 since unlinked.1 unlinked.2) (inl unlinked) h j later at) reclaimed

ended-along : (m : Machine) (events : List Event) (answers : List Answer) (states : List Machine) → IsConsistent m →
    IsHistory m events answers states → (i j n : ℕ) (first later : Machine) (since : List Section) →
    slice_get (m ∷ states) i ≡ Some first → slice_get (m ∷ states) j ≡ Some later → i < j →
    HasLife first.store.elements n (Unlinked since) → HasLife later.store.elements n Reclaimed →
    AllEnded since (open_sections later.runs)
ended-along m events answers states w h zero j n first later since ai bj less la lb =
    ended-from m events answers states w h j n later since bj
    (subst (λ (x : Machine). HasLife x.store.elements n (Unlinked since)) (sym (same_Some m first ai)) la) lb
ended-along m events answers states w h (suc i) zero n first later since ai bj less la lb = absurd (omega arith)
ended-along m [] [] [] w h (suc i) (suc j) n first later since ai bj less la lb = absurd (none-some first ai)
ended-along m (event ∷ events) (answer ∷ answers) (next ∷ states) w h (suc i) (suc j) n first later since ai bj less la lb =
    ended-along next events answers states (stays_consistent m next event answer w h.0) h.1 i j n first later since ai bj (omega arith) la lb
ended-along m events answers states w h (suc i) (suc j) n first later since ai bj less la lb = absurd h

pub reclaimed_late : (m : Machine) (events : List Event) (answers : List Answer) (states : List Machine) →
    IsConsistent m → IsHistory m events answers states → ReclaimedLate (m ∷ states)
reclaimed_late m events answers states w h = record {
  keeps = keeps-along m events answers states w h;
  ended =
      ended-along m events answers states w h;
  between = between-along m events answers states w h;
}
