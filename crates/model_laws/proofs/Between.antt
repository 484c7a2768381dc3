-- An element is unlinked before it is reclaimed.
use Rattle.bpf_model.proofs.Prelude.{◌≡◌, ℕ, zero, suc, ◌<◌, List, [], ◌∷◌, Some, ◌⊎◌, inl, inr, refl, sym, ap, ◌∙◌, arith, subst, Bool, slice_get, none-some}
use Rattle.bpf_model.proofs.Prelude.{same_Some, Section, Element, Life, Linked, Unlinked, Reclaimed, HasLife, Machine, open_sections, DoesEvent, IsHistory}
use Rattle.model_laws.proofs.Prelude.{Event, Answer, IsConsistent}
use Rattle.bpf_model.specs.Headline.{IsUnlinkedBetween}
use Rattle.model_laws.proofs.Changing.{is_reap}
use Rattle.model_laws.proofs.Stores.{LifeMoves, Stays, Unlinks, Ends, does-moves}
use Rattle.model_laws.proofs.Keeping.{stays_consistent}
use Rattle.model_laws.proofs.Lives.{linked≢unlinked, reclaimed≢linked, reclaimed≢unlinked}

life-next : (reap : Bool) (opened : List Section) (old new : Life) → LifeMoves reap opened old new → old ≡ Linked → (new ≡ Linked) ⊎ (new ≡ Unlinked opened)
life-next reap opened old new (Stays e) h = inl (e ∙ h)
life-next reap opened old new (Unlinks l e) h = inr e
life-next reap opened old new (Ends since r l ended e) h = absurd (linked≢unlinked since (sym h ∙ l))

linked-next : (m new : Machine) (event : Event) (answer : Answer) (n : ℕ) → IsConsistent m →
    DoesEvent m event answer new → HasLife m.store.elements n Linked → HasLife new.store.elements n Linked
    ⊎ HasLife new.store.elements n (Unlinked (open_sections m.runs))
linked-next m new event answer n w h old =
    let f = (does-moves m new event answer w.single w.lengths h).forth n old.0 old.1 in
    elim (life-next (is_reap event) (open_sections m.runs) old.0.life f.0.life f.2.life old.2) [
      | inl x ↦ inl (f.0, f.1, x)
      | inr x ↦ inr (f.0, f.1, x)
    ]

one-life : (es : List Element) (n : ℕ) (a b : Life) → HasLife es n a → HasLife es n b → a ≡ b
one-life es n a b h g = sym h.2 ∙ (ap (λ (x : Element). x.life) (same_Some h.0 g.0 (sym h.1 ∙ g.1)) ∙ g.2)

-- the state where it is unlinked isn't yet the one where it is reclaimed
not-yet : (m : Machine) (states : List Machine) (j n : ℕ) (later : Machine) (since : List Section) →
    slice_get (m ∷ states) j ≡ Some later → HasLife m.store.elements n (Unlinked since) →
    HasLife later.store.elements n Reclaimed → 0 < j
not-yet m states zero n later since at h g =
    absurd (reclaimed≢unlinked since (one-life m.store.elements n Reclaimed (Unlinked since)
    (subst (λ (x : Machine). HasLife x.store.elements n Reclaimed) (sym (same_Some m later at)) g) h))
not-yet m states (suc j) n later since at h g = omega arith

unlinked_before_reclaimed : (m : Machine) (events : List Event) (answers : List Answer) (states : List Machine)
    (j n : ℕ) (later : Machine) → IsConsistent m → IsHistory m events answers states →
    slice_get (m ∷ states) j ≡ Some later →
    HasLife m.store.elements n Linked → HasLife later.store.elements n Reclaimed → IsUnlinkedBetween (m ∷ states) 0 j n
unlinked_before_reclaimed m events answers states zero n later w h at old new =
    absurd (reclaimed≢linked (one-life m.store.elements n Reclaimed Linked
    (subst (λ (x : Machine). HasLife x.store.elements n Reclaimed) (sym (same_Some m later at)) new) old))
unlinked_before_reclaimed m [] [] [] (suc j) n later w h at old new = absurd (none-some later at)
unlinked_before_reclaimed m (event ∷ events) (answer ∷ answers) (next ∷ states) (suc j) n later w h at old new =
    elim (linked-next m next event answer n w h.0 old) [
      | inl x ↦
          let r = unlinked_before_reclaimed next events answers states j n later (stays_consistent m next event answer w h.0) h.1 at x new in
          let less : r.index < j = r.before in
          record { index = suc r.index; state = r.state; since = r.since; after = omega arith; before = omega arith; there = r.there; life = r.life }
      | inr x ↦
          let less : 0 < j = not-yet next states j n later (open_sections m.runs) at x new in
          record { index = 1; state = next; since = open_sections m.runs; after = omega arith; before = omega arith; there = refl; life = x }
    ]
unlinked_before_reclaimed m events answers states (suc j) n later w h at old new = absurd h

-- between any two states
pub between-along : (m : Machine) (events : List Event) (answers : List Answer) (states : List Machine) →
    IsConsistent m → IsHistory m events answers states → (i j n : ℕ) (first later : Machine) →
    slice_get (m ∷ states) i ≡ Some first →
    slice_get (m ∷ states) j ≡ Some later → i < j → HasLife first.store.elements n Linked →
    HasLife later.store.elements n Reclaimed → IsUnlinkedBetween (m ∷ states) i j n
between-along m events answers states w h zero j n first later ai bj less la lb =
    unlinked_before_reclaimed m events answers states j n later w h bj
    (subst (λ (x : Machine). HasLife x.store.elements n Linked) (sym (same_Some m first ai)) la) lb
between-along m events answers states w h (suc i) zero n first later ai bj less la lb = absurd (omega arith)
between-along m [] [] [] w h (suc i) (suc j) n first later ai bj less la lb = absurd (none-some first ai)
between-along m (event ∷ events) (answer ∷ answers) (next ∷ states) w h (suc i) (suc j) n first later ai bj less la lb =
    let r = between-along next events answers states (stays_consistent m next event answer w h.0) h.1 i j n first later ai bj (omega arith) la lb in
    let after : i < r.index = r.after in
    let before : r.index < j = r.before in
    record { index = suc r.index; state = r.state; since = r.since; after = omega arith; before = omega arith; there = r.there; life = r.life }
between-along m events answers states w h (suc i) (suc j) n first later ai bj less la lb = absurd h
