-- What is so of the runtime's choices at the start, and stays so.
use Rattle.bpf_model.proofs.Prelude.{◌≡◌, ◌≢◌, ℕ, ◌+◌, ◌<◌, List, ◌++◌, replicate, Option, Some, None, inl, inr, refl, sym, ap, ◌∙◌, arith, subst, Bool, true}
use Rattle.bpf_model.proofs.Prelude.{false, slice_get, slice_set, ◌==◌, ◌&&◌, if◌then◌else◌, cases_eq, cases_lt, false≢true, same_Some, length-map, Section}
use Rattle.bpf_model.proofs.Prelude.{Has, AllEnded, Element, Unlinked, Reclaimed, HasLife, with_life, is_unlinked, Store, new_map, all_new_elements}
use Rattle.bpf_model.proofs.Prelude.{AreShapes, Reclaims, Loaded, Machine, open_sections, with_store, DoesEvent, Queues, Schedule, open_flags, still_open}
use Rattle.bpf_model.proofs.Prelude.{is_any, retired_in, unlinked_between, retired, turned, advanced, first_ready, without_first, reaped, scheduled}
use Rattle.bpf_model.proofs.Prelude.{TakesFirst, DoesScheduled, start_schedule, no_queues, times, get-set_cases, get-set_other, get-replicate, none-without}
use Rattle.model_laws.proofs.Prelude.{MapShape, MAX_RUNS, Event, Answer, Given, IsConsistent, queued_in, Waits, IsScheduled}
use Rattle.bpf_model.specs.declared.event.Event.TheVariants as events
use Rattle.bpf_model.specs.declared.event.Answer.TheVariants as answers
use Rattle.model_laws.proofs.NewElements.{new-once}
use Rattle.model_laws.proofs.Sections.{OpenAt, open_at}
use Rattle.model_laws.proofs.Moves.{RunsMove, does-move}
use Rattle.model_laws.proofs.Changing.{is_reap}
use Rattle.model_laws.proofs.Stores.{StoreMoves, does-moves}
use Rattle.model_laws.proofs.Keeping.{starts_consistent, stays_consistent}
use Rattle.model_laws.proofs.Counting.{times-append, times-first, times-other, between-is, retired-back, length-retired, map-back, still-forth, still-back}
use Rattle.model_laws.proofs.Counting.{flag-any, shortened, FirstIndex, first-index, without-back, length-without}
use Rattle.model_laws.proofs.Queueing.{Queued, queued-of, queued-most, queued-reclaimed, queued-elsewhere, open-flag, keeps-waits, count-step}
use Rattle.model_laws.proofs.Lives.{reclaimed≢unlinked}

abbrev total : ℕ → Queues → ℕ
total n q = times n q.next + times n q.waiting + times n q.ready

-- the start
no-flag : (n r : ℕ) → slice_get (replicate n false) r ≡ Some true → ⊥
no-flag n r h = false≢true (sym (get-replicate n r false true h))

pub waits-nothing : (s : Schedule) → Waits s no_queues
waits-nothing s = record {
  ended = λ n e since has born life. absurd (omega arith);
  awaits =
      λ n e since r run has born life there inside h. absurd (omega arith);
}

new-queued : (k n : ℕ) (shapes : List MapShape) (o : Option Element) → slice_get (all_new_elements 0 shapes) n ≡ o → queued_in k o ≡ 0
new-queued k n shapes None h = refl
new-queued k n shapes (Some e) h = ap (λ l. if is_unlinked l && (e.map == k) then 1 else 0) (new-once 0 shapes n e h).0

pub starts_scheduled : (shapes : List MapShape) (programs : List Loaded) → AreShapes shapes → IsScheduled (start_schedule shapes programs)
starts_scheduled shapes programs limits = record {
  consistent = starts_consistent shapes programs limits;
  queues = length-map shapes (λ x. no_queues) ∙ sym (length-map shapes new_map);
  queued = λ k n q at. let b = map-back (λ x. no_queues) shapes k q at in subst
      (λ x. total n x ≡ queued_in k (slice_get (all_new_elements 0 shapes) n)) b.2
      (sym (new-queued k n shapes (slice_get (all_new_elements 0 shapes) n) refl));
  awaited = λ r h. absurd (no-flag MAX_RUNS r h);
  waits = λ k q at. let b = map-back (λ x. no_queues) shapes k q at in subst (Waits (start_schedule shapes programs))
      b.2 (waits-nothing (start_schedule shapes programs));
}

-- a step that is neither an advance nor a reap
abbrev pub plain : Schedule → Machine → Schedule
plain s m = record { machine = m; queues = retired 0 s.machine.store.elements m.store.elements s.queues; awaited = still_open s.awaited (open_flags m.runs) }

module _ (s : Schedule) (m : Machine) (w : IsScheduled s) (consistent : IsConsistent m) (runs : RunsMove s.machine m)
    (mv : StoreMoves false (open_sections s.machine.runs) s.machine.store m.store) where
  plain-total : (k n : ℕ) (q : Queues) → slice_get s.queues k ≡ Some q →
      total n (retired_in k s.machine.store.elements m.store.elements q) ≡ queued_in k (slice_get m.store.elements n)
  plain-total k n q at =
      let a = times-append n q.next (unlinked_between k 0 s.machine.store.elements m.store.elements) in
      let b = between-is k s.machine.store.elements m.store.elements n in
      let c = count-step k n (open_sections s.machine.runs) s.machine.store m.store mv in
      let d = w.queued k n q at in
      omega arith

  pub keeps-plain : IsScheduled (plain s m)
  keeps-plain = record {
    consistent = consistent;
    queues = length-retired s.machine.store.elements m.store.elements s.queues 0 ∙ (w.queues ∙ sym mv.maps);
    queued = λ k n later at. let b = retired-back s.machine.store.elements m.store.elements s.queues k later
        at in subst (λ x. total n x ≡ queued_in k (slice_get m.store.elements n)) b.2 (plain-total k n b.0 b.1);
    awaited = λ r h. still-back s.awaited (open_flags m.runs) r h;
    waits = λ k later at.
        let b = retired-back s.machine.store.elements m.store.elements s.queues k later at in
        subst (Waits (plain s m)) b.2
        (keeps-waits false s (plain s m) w runs mv (λ r run there inside h.
        still-forth s.awaited (open_flags m.runs) r h (open-flag m.runs r run there inside)) k b.0
        (retired_in k s.machine.store.elements m.store.elements b.0) b.1 refl (λ n. omega arith));
  }

-- an advance
turned-total : (n : ℕ) (q : Queues) → total n (turned q) ≡ total n q
turned-total n q = let a = times-append n q.ready q.waiting in omega arith

none-awaited : (s : Schedule) (r : ℕ) → is_any s.awaited ≡ false → slice_get s.awaited r ≡ Some true → ⊥
none-awaited s r none h = false≢true (sym none ∙ flag-any s.awaited r h)

section-open : (s : Schedule) (k n : ℕ) (q : Queues) (e : Element) (since : List Section) (x : Section) →
    IsScheduled s → slice_get s.queues k ≡ Some q → 0 < times n q.waiting →
    slice_get s.machine.store.elements n ≡ Some e → e.life ≡ Unlinked since → Has since x →
    (o : OpenAt s.machine.runs x) → slice_get s.awaited o.slot ≡ Some true
section-open s k n q e since x w at has born life h o =
    (w.waits k q at).awaits n e since o.slot o.run has born life o.there o.inside (subst (Has since) (sym o.is) h)

module _ (s : Schedule) (w : IsScheduled s) (none : is_any s.awaited ≡ false) where
  waiting-ended : (k n : ℕ) (q : Queues) (e : Element) (since : List Section) → slice_get s.queues k ≡ Some q →
      0 < times n q.waiting → slice_get s.machine.store.elements n ≡ Some e → e.life ≡ Unlinked since →
      AllEnded since (open_sections s.machine.runs)
  waiting-ended k n q e since at has born life x h opened = let o =
      open_at s.machine.runs x opened in none-awaited s o.slot none
      (section-open s k n q e since x w at has born life h o)

  turned-ended : (k n : ℕ) (q : Queues) (e : Element) (since : List Section) → slice_get s.queues k ≡ Some q →
      0 < times n (q.ready ++ q.waiting) → slice_get s.machine.store.elements n ≡ Some e → e.life ≡ Unlinked since →
      AllEnded since (open_sections s.machine.runs)
  turned-ended k n q e since at has born life = elim (cases_lt 0 (times n q.ready)) [
    | inl y ↦ (w.waits k q at).ended n e since y born life
    | inr z ↦ let a = times-append n q.ready q.waiting in waiting-ended k n q e since at (omega arith) born life
  ]

  turned-waits : (k : ℕ) (q : Queues) → slice_get s.queues k ≡ Some q → Waits (advanced s s.machine false) (turned q)
  turned-waits k q at = record {
    ended = λ n e since has born life. turned-ended k n q e since at has born life;
    awaits = λ n e since r run has born life there inside h. open-flag s.machine.runs r run there inside;
  }

  keeps-turned : IsScheduled (advanced s s.machine false)
  keeps-turned = record {
    consistent = w.consistent;
    queues = length-map s.queues turned ∙ w.queues;
    queued = λ k n later at. let b = map-back turned s.queues k later at in subst
        (λ x. total n x ≡ queued_in k (slice_get s.machine.store.elements n)) b.2
        (turned-total n b.0 ∙ w.queued k n b.0 b.1);
    awaited = λ r h. h;
    waits = λ k later at. let b = map-back turned s.queues k later at in subst (Waits (advanced s s.machine false)) b.2 (turned-waits k b.0 b.1);
  }

keeps-advanced : (b : Bool) (s : Schedule) → IsScheduled s → is_any s.awaited ≡ b → IsScheduled (advanced s s.machine b)
keeps-advanced true s w h = w
keeps-advanced false s w h = keeps-turned s w h

keeps-advance : (s : Schedule) (m : Machine) → IsScheduled s → m ≡ s.machine → IsScheduled (advanced s m (is_any s.awaited))
keeps-advance s m w e = subst (λ x. IsScheduled (advanced s x (is_any s.awaited))) (sym e) (keeps-advanced (is_any s.awaited) s w refl)

-- a reap that finds nothing
keeps-none : (s : Schedule) (m : Machine) → IsScheduled s → m ≡ s.machine → first_ready s.queues ≡ None → IsScheduled (reaped s m)
keeps-none s m w e none =
    let P : List Queues → Type 0 = λ qs. IsScheduled (record { machine = m; queues = qs; awaited = s.awaited }) in
    let Q : Machine → Type 0 = λ x. IsScheduled (record { machine = x; queues = s.queues; awaited = s.awaited }) in
    subst P (sym (none-without s.queues none)) (subst Q (sym e) w)

-- a reap that takes an element
pub first-queued : (s : Schedule) (n : ℕ) → IsScheduled s → (p : FirstIndex s.queues n) → Queued s.machine.store.elements p.map_at n
first-queued s n w p = queued-of s p.map_at n p.lists w p.there
    (let a : times n p.lists.ready ≡ 1 + times n p.rest = ap (times n) p.ready_is ∙
    times-first n n p.rest refl in omega arith)

-- only the element that is reclaimed changes
pub same-element : (es new : List Element) (k n a : ℕ) (e : Element) → Queued es k n →
    new ≡ slice_set es a (with_life Reclaimed e) → HasLife new n Reclaimed → n ≡ a
same-element es new k n a e q is life = elim (cases_eq n a) [
  | inl y ↦ y
  | inr ne ↦
      let there : slice_get new n ≡ Some q.element = ap (λ l. slice_get l n) is ∙ (get-set_other es a n (with_life Reclaimed e) ne ∙ q.born) in
      let same : q.element ≡ life.0 = same_Some q.element life.0 (sym there ∙ life.1) in
      absurd (reclaimed≢unlinked q.since (sym life.2 ∙ (ap (λ z. z.life) (sym same) ∙ q.life)))
]

others-stay : (es new : List Element) (n a : ℕ) (e : Element) → n ≡ a → new ≡ slice_set es a (with_life Reclaimed e) →
    (x : ℕ) → x ≢ n → slice_get new x ≡ slice_get es x
others-stay es new n a e same is x ne = ap (λ l. slice_get l x) is ∙ get-set_other es a x (with_life Reclaimed e) (λ h. ne (h ∙ sym same))

module _ (s : Schedule) (m : Machine) (n : ℕ) (w : IsScheduled s) (p : FirstIndex s.queues n)
    (life : HasLife m.store.elements n Reclaimed) (others : (x : ℕ) → x ≢ n →
    slice_get m.store.elements x ≡ slice_get s.machine.store.elements x) where
  ready-times : (x : ℕ) → x ≢ n → times x p.rest ≡ times x p.lists.ready
  ready-times x ne = sym (ap (times x) p.ready_is ∙ times-other x n p.rest (λ e. ne (sym e)))

  gone : (k : ℕ) → queued_in k (slice_get m.store.elements n) ≡ 0
  gone k = queued-reclaimed k (slice_get m.store.elements n) life.0 life.1 life.2

  total-here : total n (shortened p.rest p.lists) ≡ 0
  total-here =
      let a : times n p.lists.ready ≡ 1 + times n p.rest = ap (times n) p.ready_is ∙ times-first n n p.rest refl in
      let b = w.queued p.map_at n p.lists p.there in
      let c = queued-most p.map_at (slice_get s.machine.store.elements n) in
      omega arith

  total-shortened : (x : ℕ) → total x (shortened p.rest p.lists) ≡ queued_in p.map_at (slice_get m.store.elements x)
  total-shortened x = elim (cases_eq x n) [
    | inl y ↦ subst (λ z. total z (shortened p.rest p.lists) ≡ queued_in p.map_at (slice_get m.store.elements z)) (sym y) (total-here ∙ sym (gone p.map_at))
    | inr ne ↦ ap (λ z. times x p.lists.next + times x p.lists.waiting + z) (ready-times x ne) ∙
        (w.queued p.map_at x p.lists p.there ∙ ap (queued_in p.map_at) (sym (others x ne)))
  ]

  total-other : (k x : ℕ) (q : Queues) → k ≢ p.map_at → slice_get s.queues k ≡ Some q → total x q ≡ queued_in k (slice_get m.store.elements x)
  total-other k x q away at = elim (cases_eq x n) [
    | inl y ↦
        let d = first-queued s n w p in
        let none : total n q ≡ 0 = w.queued k n q at ∙
        queued-elsewhere k (slice_get s.machine.store.elements n) d.element d.born
        (λ e. away (sym e ∙ d.in_map)) in
        subst (λ z. total z q ≡ queued_in k (slice_get m.store.elements z)) (sym y) (none ∙ sym (gone k))
    | inr ne ↦ w.queued k x q at ∙ ap (queued_in k) (sym (others x ne))
  ]

  total-reaped : (k x : ℕ) (later : Queues) → slice_get (without_first s.queues) k ≡ Some later → total x later ≡ queued_in k (slice_get m.store.elements x)
  total-reaped k x later at = elim (get-set_cases s.queues p.map_at k (shortened p.rest p.lists) later (ap (λ l. slice_get l k) (sym p.without) ∙ at)) [
    | inl y ↦ subst (λ z. total x z ≡ queued_in k (slice_get m.store.elements x)) y.1
        (total-shortened x ∙ ap (λ z. queued_in z (slice_get m.store.elements x)) (sym y.0))
    | inr y ↦ total-other k x later y.0 y.1
  ]

  keeps-reaped : IsConsistent m → RunsMove s.machine m →
      StoreMoves true (open_sections s.machine.runs) s.machine.store m.store → m.runs ≡ s.machine.runs →
      IsScheduled (reaped s m)
  keeps-reaped consistent runs mv same = record {
    consistent = consistent;
    queues = length-without s.queues ∙ (w.queues ∙ sym mv.maps);
    queued = λ k x later at. total-reaped k x later at;
    awaited = λ r h. ap (λ l. slice_get (open_flags l) r) same ∙ w.awaited r h;
    waits = λ k later at.
        let b = without-back s.queues k later at in
        keeps-waits true s (reaped s m) w runs mv (λ r run there inside h. h) k b.0 later b.1 b.2.waiting b.2.ready;
  }

keeps-taken : (s : Schedule) (m : Machine) (n a : ℕ) (e : Element) (given : Given) (store : Store) → IsScheduled s →
    IsConsistent m → RunsMove s.machine m → StoreMoves true (open_sections s.machine.runs) s.machine.store m.store →
    Reclaims s.machine.store (open_sections s.machine.runs) a e given store → m ≡ with_store s.machine store →
    first_ready s.queues ≡ Some n → HasLife m.store.elements n Reclaimed → IsScheduled (reaped s m)
keeps-taken s m n a e given store w consistent runs mv r is first life =
    let p = first-index s.queues n first in
    let es : m.store.elements ≡ slice_set s.machine.store.elements a (with_life Reclaimed e) = ap (λ z. z.store.elements) is ∙ ap (λ z. z.elements) r.new_is in
    let same : n ≡ a = same-element s.machine.store.elements m.store.elements p.map_at n a e (first-queued s n w p) es life in
    keeps-reaped s m n w p life (others-stay s.machine.store.elements m.store.elements n a e same es) consistent runs mv (ap (λ z. z.runs) is)

-- a step
keeps-performed : (s : Schedule) (event : Event) (answer : Answer) (m : Machine) → IsScheduled s → IsConsistent m →
    RunsMove s.machine m → StoreMoves (is_reap event) (open_sections s.machine.runs) s.machine.store m.store →
    DoesEvent s.machine event answer m → TakesFirst s event answer m → IsScheduled (scheduled s event m)
keeps-performed s events.Advance answers.Done m w c runs mv h first = keeps-advance s m w h
keeps-performed s events.Advance answer m w c runs mv h first = absurd h
keeps-performed s events.Reap (answers.Reaped None) m w c runs mv h first = keeps-none s m w h first
keeps-performed s events.Reap (answers.Reaped (Some reaped)) m w c runs mv h first =
    keeps-taken s m first.0 h.0 h.1 reaped.given h.2 w c runs mv h.3 h.6 first.2 first.4
keeps-performed s events.Reap answer m w c runs mv h first = absurd h
keeps-performed s event answer m w c runs mv h first = keeps-plain s m w c runs mv

pub stays_scheduled : (s t : Schedule) (event : Event) (answer : Answer) → IsScheduled s → DoesScheduled s event answer t → IsScheduled t
stays_scheduled s t event answer w d =
    let c = stays_consistent s.machine t.machine event answer w.consistent d.step in
    let kept = keeps-performed s event answer t.machine w c (does-move s.machine t.machine event answer d.step)
    (does-moves s.machine t.machine event answer w.consistent.single w.consistent.lengths d.step) d.step
    d.first in
    subst IsScheduled (sym d.lists) kept
