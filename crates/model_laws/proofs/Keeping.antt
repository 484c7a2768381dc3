-- The machine stays consistent.
use Rattle.bpf_model.proofs.Prelude.{◌≡◌, ◌≢◌, ℕ, zero, suc, ◌+◌, ◌<◌, ◌≤◌, List, length, map, replicate, Some, None, ◌⊎◌, inl, inr, sym, ap, ◌∙◌, arith}
use Rattle.bpf_model.proofs.Prelude.{subst, Bool, slice_get, cases_eq, cases_lt, none-some, same_Some, slice_get_within, same-since, Section, Element, Life}
use Rattle.bpf_model.proofs.Prelude.{Linked, Unlinked, IsLinkedAt, Store, new_map, all_new_elements, AreShapes, Loaded, Run, Machine, open_sections, run_at}
use Rattle.bpf_model.proofs.Prelude.{start_machine, DoesEvent, length-replicate, get-below, get-map}
use Rattle.model_laws.proofs.Prelude.{MapShape, MAX_DEPTH, MAX_RUNS, Event, Answer, HasLengths, StaysLinked, IsConsistent, IsSingle, AllBegun}
use Rattle.model_laws.proofs.Born.{IsBornState, more-value, more-cell, born-entry}
use Rattle.model_laws.proofs.Moves.{RunsMove, run-before, started-grows, does-move}
use Rattle.model_laws.proofs.Changing.{is_reap}
use Rattle.model_laws.proofs.Stores.{LifeMoves, Stays, Unlinks, Ends, Alters, Born, StoreMoves, does-moves}
use Rattle.model_laws.proofs.Past.{all-begun-later, open-begun}
use Rattle.model_laws.proofs.Lives.{linked≢unlinked, reclaimed≢linked, reclaimed≢unlinked}
use Rattle.model_laws.proofs.ArraysStay.{does-fix}
use Rattle.model_laws.proofs.NewElements.{new-element, new-single, new-once, length-index}

-- at the start
pub no-run : (n r : ℕ) (run : Run) → run_at (replicate n None) r ≡ Some run → ⊥
no-run zero r run h = none-some run h
no-run (suc n) zero run h = none-some run h
no-run (suc n) (suc r) run h = no-run n r run h

new-lengths : (shapes : List MapShape) → AreShapes shapes → (n : ℕ) (e : Element) →
    slice_get (all_new_elements 0 shapes) n ≡ Some e → HasLengths (map new_map shapes) e
new-lengths shapes limits n e h =
    let r = new-element 0 shapes n e h in
    let z : 0 + r.offset ≡ e.map = ap (λ (x : Element). x.map) r.is in
    let o : 0 + r.offset ≡ r.offset = omega arith in
    let array = (limits r.offset r.shape r.there).array r.array in (
      new_map r.shape,
      ap (slice_get (map new_map shapes)) (sym z ∙ o) ∙ get-map new_map shapes r.offset r.shape r.there,
      ap (λ (x : Element). length x.key) (sym r.is) ∙ (length-index r.index ∙ sym array.key),
      ap (λ (x : Element). length x.value) (sym r.is) ∙ length-replicate r.shape.value_len 0,
    )

pub starts_consistent : (shapes : List MapShape) (programs : List Loaded) → AreShapes shapes → IsConsistent (start_machine shapes programs)
starts_consistent shapes programs limits = record {
  single = λ map key a b la lb. new-single 0 shapes limits a b la.element lb.element la.born lb.born (la.in_map ∙ sym lb.in_map) (la.under ∙ sym lb.under);
  lengths = new-lengths shapes limits;
  arrays = λ n e h state at array. (new-once 0 shapes n e h).0;
  named = λ r run h. absurd (no-run MAX_RUNS r run h);
  apart = λ q r a b ha hb same. absurd (no-run MAX_RUNS q a ha);
  begun = λ n e since h life. absurd (linked≢unlinked since (sym (new-once 0 shapes n e h).0 ∙ life));
  deep = λ r run h. absurd (no-run MAX_RUNS r run h);
  ended = λ r run h ended. absurd (no-run MAX_RUNS r run h);
  registers = λ r run i h. absurd (no-run MAX_RUNS r run h);
  cells = λ r run k h. absurd (no-run MAX_RUNS r run h);
}

-- an element of the new state was there before, altered, or is born
pub record Past (reap : Bool) (opened : List Section) (s : Store) (n : ℕ) (f : Element) : Type 0 where
  pub old : Element
  pub there : slice_get s.elements n ≡ Some old
  pub alters : Alters reap opened old f

pub element-before : (reap : Bool) (opened : List Section) (s new : Store) (n : ℕ) (f : Element) →
    StoreMoves reap opened s new → slice_get new.elements n ≡ Some f → Past reap opened s n f ⊎ Born s new n f
element-before reap opened s new n f mv h = elim (mv.back n f h) [
  | inl x ↦
      let g = mv.forth n x.0 x.1 in
      let same : g.0 ≡ f = same_Some g.0 f (sym g.1 ∙ h) in
      inl (record { old = x.0; there = x.1; alters = subst (Alters reap opened x.0) same g.2 })
  | inr x ↦ inr x
]

linked-before : (reap : Bool) (opened : List Section) (old new : Life) → LifeMoves reap opened old new → new ≡ Linked → old ≡ Linked
linked-before reap opened old new (Stays e) h = sym e ∙ h
linked-before reap opened old new (Unlinks l e) h = l
linked-before reap opened old new (Ends since r l ended e) h = absurd (reclaimed≢linked (sym e ∙ h))

module _ (reap : Bool) (opened : List Section) (s new : Store) (mv : StoreMoves reap opened s new) where
  link-before : (map : ℕ) (key : List ℕ) (a : ℕ) → IsLinkedAt new.elements map key a → IsLinkedAt s.elements map key a
      ⊎ ((b : ℕ) → IsLinkedAt new.elements map key b → b ≡ a)
  link-before map key a l = elim (element-before reap opened s new a l.element mv l.born) [
    | inl x ↦ inl (record {
      element = x.old;
      born = x.there;
      linked = linked-before reap opened x.old.life l.element.life x.alters.life l.linked;
      in_map = sym x.alters.in_map ∙ l.in_map;
      under = sym x.alters.under ∙ l.under;
    })
    | inr x ↦ inr (λ b k. x.only b (record {
      element = k.element;
      born = k.born;
      linked = k.linked;
      in_map = k.in_map
          ∙ sym l.in_map;
      under = k.under ∙ sym l.under;
    }))
  ]

  pub keeps-single : IsSingle s.elements → IsSingle new.elements
  keeps-single w map key a b la lb = elim (link-before map key a la) [
    | inl x ↦ elim (link-before map key b lb) [
      | inl y ↦ w map key a b x y
      | inr y ↦ y a la
    ]
    | inr x ↦ sym (x b lb)
  ]

  lengths-later : (e : Element) → HasLengths s.maps e → HasLengths new.maps e
  lengths-later e h =
      let n = mv.shapes e.map h.0 h.1 in
      (n.0, n.1, h.2 ∙ ap (λ x. x.key_len) (sym n.2), h.3 ∙ ap (λ x. x.value_len) (sym n.2))

  lengths-altered : (e f : Element) → Alters reap opened e f → HasLengths new.maps e → HasLengths new.maps f
  lengths-altered e f a h = (h.0, ap (slice_get new.maps) a.in_map ∙ h.1, ap length a.under ∙ h.2, a.size ∙ h.3)

  pub keeps-lengths : ((n : ℕ) (e : Element) → slice_get s.elements n ≡ Some e → HasLengths s.maps e) →
      (n : ℕ) (e : Element) → slice_get new.elements n ≡ Some e → HasLengths new.maps e
  keeps-lengths w n e h = elim (element-before reap opened s new n e mv h) [
    | inl x ↦ lengths-altered x.old e x.alters (lengths-later x.old (w n x.old x.there))
    | inr x ↦ lengths-later e x.fits
  ]

  pub births-grow : length s.elements ≤ length new.elements
  births-grow = elim (cases_lt (length new.elements) (length s.elements)) [
    | inl less ↦
        let e = get-below s.elements (length new.elements) less in
        let f = mv.forth (length new.elements) e.0 e.1 in
        let bad : length new.elements < length new.elements = slice_get_within new.elements (length new.elements) f.0 f.1 in
        absurd (omega arith)
    | inr more ↦ more
  ]

begun-life : (reap : Bool) (m : Machine) (old new : Life) (since : List Section) → IsConsistent m →
    LifeMoves reap (open_sections m.runs) old new → new ≡ Unlinked since → (old ≡ Unlinked since → AllBegun m since) →
    AllBegun m since
begun-life reap m old new since w (Stays e) h k = k (sym e ∙ h)
begun-life reap m old new since w (Unlinks l e) h k = subst (AllBegun m) (same-since _ _ (sym e ∙ h)) (open-begun m w)
begun-life reap m old new since w (Ends past r l ended e) h k = absurd (reclaimed≢unlinked since (sym e ∙ h))

-- what is so of the old maps is so of the new ones
stays-later : (reap : Bool) (opened : List Section) (s new : Store) (e : Element) → StoreMoves reap opened s new →
    HasLengths s.maps e → StaysLinked s.maps e → StaysLinked new.maps e
stays-later reap opened s new e mv h stays state at array =
    let n = mv.shapes e.map h.0 h.1 in
    let same : n.0 ≡ state = same_Some n.0 state (sym n.1 ∙ at) in
    stays h.0 h.1 (ap (λ x. x.kind) (sym n.2) ∙ (ap (λ x. x.shape.kind) same ∙ array))

module _ (reap : Bool) (m new : Machine) (w : IsConsistent m) (runs : RunsMove m new) (mv : StoreMoves reap (open_sections m.runs) m.store new.store)
    (fixes : (n : ℕ) (e f : Element) → slice_get m.store.elements n ≡ Some e → slice_get new.store.elements n ≡ Some f
    → StaysLinked m.store.maps e → StaysLinked m.store.maps f) where
  arrays-new : (n : ℕ) (f : Element) → slice_get new.store.elements n ≡ Some f → StaysLinked new.store.maps f
  arrays-new n f at = elim (element-before reap (open_sections m.runs) m.store new.store n f mv at) [
    | inl x ↦
        let lengths = lengths-old x.old f x.alters (w.lengths n x.old x.there) in
        stays-later reap (open_sections m.runs) m.store new.store f mv lengths (fixes n x.old f x.there at (w.arrays n x.old x.there))
    | inr x ↦ λ state there array. x.linked
  ]
    where
      lengths-old : (e f : Element) → Alters reap (open_sections m.runs) e f → HasLengths m.store.maps e → HasLengths m.store.maps f
      lengths-old e f a h = (h.0, ap (slice_get m.store.maps) a.in_map ∙ h.1, ap length a.under ∙ h.2, a.size ∙ h.3)

  begun-new : (n : ℕ) (f : Element) (since : List Section) → slice_get new.store.elements n ≡ Some f → f.life ≡ Unlinked since → AllBegun new since
  begun-new n f since at life = elim (element-before reap (open_sections m.runs) m.store new.store n f mv at) [
    | inl x ↦ all-begun-later m new since runs (begun-life reap m x.old.life f.life since w x.alters.life life (λ l. w.begun n x.old since x.there l))
    | inr x ↦ absurd (linked≢unlinked since (sym x.linked ∙ life))
  ]

  named-new : (r : ℕ) (run : Run) → run_at new.runs r ≡ Some run → run.name < new.started
  named-new r run at = elim (run-before m new r run runs at) [
    | inl x ↦
        let b : x.old.name < m.started = w.named r x.old x.there in
        let e : run.name ≡ x.old.name = x.goes.name in
        let g : m.started ≤ new.started = started-grows m new runs in
        omega arith
    | inr x ↦ let e : m.started ≡ run.name = ap (λ q. q.name) x.is.2 in let s : new.started ≡ m.started + 1 = x.started in omega arith
  ]

  fresh-apart : (q : ℕ) (a b : Run) → run_at m.runs q ≡ Some a → m.started ≡ a.name → ⊥
  fresh-apart q a b at same = let n : a.name < m.started = w.named q a at in absurd (omega arith)

  apart-new : (q r : ℕ) (a b : Run) → run_at new.runs q ≡ Some a → run_at new.runs r ≡ Some b → a.name ≡ b.name → q ≡ r
  apart-new q r a b ha hb same = elim (run-before m new q a runs ha) [
    | inl x ↦ elim (run-before m new r b runs hb) [
      | inl y ↦ w.apart q r x.old y.old x.there y.there (sym x.goes.name ∙ (same ∙ y.goes.name))
      | inr y ↦ absurd (fresh-apart q x.old b x.there (ap (λ z. z.name) y.is.2 ∙ (sym same ∙ x.goes.name)))
    ]
    | inr x ↦ elim (cases_eq r q) [
      | inl e ↦ sym e
      | inr ne ↦ absurd (fresh-apart r b a (x.only r b hb ne) (ap (λ z. z.name) x.is.2 ∙ same))
    ]
  ]

  deep-new : (r : ℕ) (run : Run) → run_at new.runs r ≡ Some run → run.depth ≤ MAX_DEPTH
  deep-new r run at = elim (run-before m new r run runs at) [
    | inl x ↦ x.goes.deep (w.deep r x.old x.there)
    | inr x ↦ let e : 0 ≡ run.depth = ap (λ q. q.depth) x.is.2 in omega arith
  ]

  ended-new : (r : ℕ) (run : Run) → run_at new.runs r ≡ Some run → run.exit ≢ None → run.depth ≡ 0
  ended-new r run at out = elim (run-before m new r run runs at) [
    | inl x ↦ elim (x.goes.ends out) [
      | inl y ↦ y.1 ∙ w.ended r x.old x.there y.0
      | inr y ↦ y
    ]
    | inr x ↦ absurd (out (ap (λ q. q.exit) (sym x.is.2)))
  ]

  state-new : (r : ℕ) (run : Run) → run_at new.runs r ≡ Some run → IsBornState (length m.store.elements) run.state
  state-new r run at = elim (run-before m new r run runs at) [
    | inl x ↦ x.born (λ i. w.registers r x.old i x.there, λ k. w.cells r x.old k x.there)
    | inr x ↦ subst (λ z. IsBornState (length m.store.elements) z.state) x.is.2 (born-entry (length m.store.elements))
  ]

  grown : length m.store.elements ≤ length new.store.elements
  grown = births-grow reap (open_sections m.runs) m.store new.store mv

  pub keeps-consistent : IsConsistent new
  keeps-consistent = record {
    single = keeps-single reap (open_sections m.runs) m.store new.store mv w.single;
    lengths = keeps-lengths reap (open_sections m.runs) m.store new.store mv w.lengths;
    arrays = arrays-new;
    named = named-new;
    apart = apart-new;
    begun = begun-new;
    deep = deep-new;
    ended = ended-new;
    registers = λ r run i at. more-value _ _ (run.state.regs i) grown ((state-new r run at).0 i);
    cells = λ r run k at. more-cell _ _ (run.state.frame k) grown ((state-new r run at).1 k);
  }

pub stays_consistent : (m new : Machine) (event : Event) (answer : Answer) → IsConsistent m → DoesEvent m event answer new → IsConsistent new
stays_consistent m new event answer w h = keeps-consistent (is_reap event) m new w (does-move m new event answer h)
    (does-moves m new event answer w.single w.lengths h) (does-fix m new event answer h)
