-- After two quiet advances, a reap finds nothing only when everything that was unlinked before is reclaimed.
use Rattle.bpf_model.proofs.Prelude.{◌≡◌, ◌≢◌, ℕ, zero, suc, ◌+◌, ◌<◌, List, [], ◌∷◌, length, map, Option, Some, None, refl, sym, ap, ◌∙◌, arith, subst, Bool}
use Rattle.bpf_model.proofs.Prelude.{true, false, slice_get, slice_set, ◌==◌, ◌&&◌, false_from_ne_true, false≢true, none-some, same_Some, slice_get_within}
use Rattle.bpf_model.proofs.Prelude.{oldest-none, Section, AllEnded, Element, Life, Linked, Unlinked, Reclaimed, HasLife, is_linked, with_life, is_unlinked}
use Rattle.bpf_model.proofs.Prelude.{MapState, Store, given_of, Reclaims, AreShapes, Loaded, Machine, open_sections, with_store, Queues, Schedule, open_flags}
use Rattle.bpf_model.proofs.Prelude.{is_any, retired_in, unlinked_between, turned, advanced, first_ready, reaped, scheduled, TakesFirst, DoesScheduled}
use Rattle.bpf_model.proofs.Prelude.{IsScheduledHistory, start_schedule, machines, times, length-set, get-below, get-set_there}
use Rattle.model_laws.proofs.Prelude.{MapShape, Event, Answer, Given, ReapedElement, IsScheduled}
use Rattle.bpf_model.specs.declared.event.Event.TheVariants as events
use Rattle.bpf_model.specs.declared.event.Answer.TheVariants as answers
use Rattle.bpf_model.specs.Drain.{IsQuietAdvance, Drains}
use Rattle.model_laws.specs.Scheduled.{IsReapable}
use Rattle.model_laws.proofs.Advancing.{no_flag}
use Rattle.model_laws.proofs.Changing.{is_reap}
use Rattle.model_laws.proofs.Stores.{LifeMoves, Stays, Unlinks, Ends, StoreMoves, does-moves}
use Rattle.model_laws.proofs.Counting.{newly, times-append, times-first, between-is, retired-back, map-back, any-flag, flag-any, first-index, none-ready}
use Rattle.model_laws.proofs.Counting.{without-back}
use Rattle.model_laws.proofs.Queueing.{Queued, queued-here}
use Rattle.model_laws.proofs.Scheduling.{plain, first-queued, starts_scheduled, stays_scheduled}
use Rattle.model_laws.proofs.Lives.{linked≢unlinked, reclaimed≢linked}
use Rattle.model_laws.proofs.Tallies.{one_of}

-- an element that isn't linked any more
pub record IsOut (es : List Element) (n : ℕ) : Type 0 where
  pub element : Element
  pub born : slice_get es n ≡ Some element
  pub out : element.life ≢ Linked

life-out : (reap : Bool) (opened : List Section) (old new : Life) → LifeMoves reap opened old new → old ≢ Linked → new ≢ Linked
life-out reap opened old new (Stays e) h g = h (sym e ∙ g)
life-out reap opened old new (Unlinks l e) h g = h l
life-out reap opened old new (Ends since r l ended e) h g = reclaimed≢linked (sym e ∙ g)

out-later : (reap : Bool) (opened : List Section) (s new : Store) (n : ℕ) → StoreMoves reap opened s new → IsOut s.elements n → IsOut new.elements n
out-later reap opened s new n mv o =
    let f = mv.forth n o.element o.born in
    record { element = f.0; born = f.1; out = life-out reap opened o.element.life f.0.life f.2.life o.out }

-- it doesn't stand in next, and later on neither in waiting
abbrev pub HasWaited : Schedule → ℕ → Type 0
HasWaited s n = (k : ℕ) (q : Queues) → slice_get s.queues k ≡ Some q → times n q.next ≡ 0

abbrev pub HasReadied : Schedule → ℕ → Type 0
HasReadied s n = (k : ℕ) (q : Queues) → slice_get s.queues k ≡ Some q → (times n q.next ≡ 0) × (times n q.waiting ≡ 0)

not-linked : (l : Life) → l ≢ Linked → is_linked l ≡ false
not-linked Linked h = absurd (h refl)
not-linked (Unlinked since) h = refl
not-linked Reclaimed h = refl

newly-out : (k : ℕ) (e : Element) (o : Option Element) → e.life ≢ Linked → newly k (Some e) o ≡ 0
newly-out k e None h = refl
newly-out k e (Some f) h = ap (λ b. one_of (b && is_unlinked f.life && (e.map == k))) (not-linked e.life h)

next-out : (k n : ℕ) (q : Queues) (old new : List Element) → IsOut old n → times n q.next ≡ 0 → times n (retired_in k old new q).next ≡ 0
next-out k n q old new o h =
    let a = times-append n q.next (unlinked_between k 0 old new) in
    let b = between-is k old new n in
    let c : newly k (slice_get old n) (slice_get new n) ≡ 0 = ap (λ x. newly k x (slice_get new n)) o.born ∙ newly-out k o.element (slice_get new n) o.out in
    omega arith

-- a property of the lists that each kind of step keeps
module _ (s : Schedule) (m : Machine) (n : ℕ) where
  waited-plain : IsOut s.machine.store.elements n → HasWaited s n → HasWaited (plain s m) n
  waited-plain o h k later at =
      let b = retired-back s.machine.store.elements m.store.elements s.queues k later at in
      subst (λ x. times n x.next ≡ 0) b.2 (next-out k n b.0 s.machine.store.elements m.store.elements o (h k b.0 b.1))

  readied-plain : IsOut s.machine.store.elements n → HasReadied s n → HasReadied (plain s m) n
  readied-plain o h k later at =
      let b = retired-back s.machine.store.elements m.store.elements s.queues k later at in
      subst (λ x. (times n x.next ≡ 0) × (times n x.waiting ≡ 0)) b.2
      (next-out k n b.0 s.machine.store.elements m.store.elements o (h k b.0 b.1).0, (h k b.0 b.1).1)

  waited-reaped : HasWaited s n → HasWaited (reaped s m) n
  waited-reaped h k later at = let b = without-back s.queues k later at in ap (times n) b.2.next ∙ h k b.0 b.1

  readied-reaped : HasReadied s n → HasReadied (reaped s m) n
  readied-reaped h k later at = let b = without-back s.queues k later
      at in (ap (times n) b.2.next ∙ (h k b.0 b.1).0, ap (times n) b.2.waiting ∙ (h k b.0 b.1).1)

  -- after the lists were turned, the element is in no next list
  waited-turned : HasWaited (advanced s m false) n
  waited-turned k later at = let b = map-back turned s.queues k later at in subst (λ x. times n x.next ≡ 0) b.2 refl

  readied-turned : HasWaited s n → HasReadied (advanced s m false) n
  readied-turned h k later at = let b = map-back turned s.queues k later at in subst
      (λ x. (times n x.next ≡ 0) × (times n x.waiting ≡ 0)) b.2 (refl, h k b.0 b.1)

  readied-waited : HasReadied s n → HasWaited s n
  readied-waited h k q at = (h k q at).0

  waited-advanced : (b : Bool) → HasWaited s n → HasWaited (advanced s m b) n
  waited-advanced true h = h
  waited-advanced false h = waited-turned

  readied-advanced : (b : Bool) → HasReadied s n → HasReadied (advanced s m b) n
  readied-advanced true h = h
  readied-advanced false h = readied-turned (readied-waited h)

  waited-scheduled : (event : Event) → IsOut s.machine.store.elements n → HasWaited s n → HasWaited (scheduled s event m) n
  waited-scheduled events.Advance o h = waited-advanced (is_any s.awaited) h
  waited-scheduled events.Reap o h = waited-reaped h
  waited-scheduled event o h = waited-plain o h

  readied-scheduled : (event : Event) → IsOut s.machine.store.elements n → HasReadied s n → HasReadied (scheduled s event m) n
  readied-scheduled events.Advance o h = readied-advanced (is_any s.awaited) h
  readied-scheduled events.Reap o h = readied-reaped h
  readied-scheduled event o h = readied-plain o h

-- what each event keeps of an element that is out of its map: it is in no next list, or in no waiting
-- list either
pub record Waited (s : Schedule) (n : ℕ) : Type 0 where
  pub out : IsOut s.machine.store.elements n
  pub lists : HasWaited s n

pub record Readied (s : Schedule) (n : ℕ) : Type 0 where
  pub out : IsOut s.machine.store.elements n
  pub lists : HasReadied s n

module _ (s t : Schedule) (event : Event) (answer : Answer) (w : IsScheduled s) (d : DoesScheduled s event answer t) (n : ℕ) where
  out-step : IsOut s.machine.store.elements n → IsOut t.machine.store.elements n
  out-step o = out-later (is_reap event) (open_sections s.machine.runs) s.machine.store t.machine.store n
      (does-moves s.machine t.machine event answer w.consistent.single w.consistent.lengths d.step) o

  waited-step : Waited s n → Waited t n
  waited-step h = record { out = out-step h.out; lists = subst (λ x. HasWaited x n) (sym d.lists) (waited-scheduled s t.machine n event h.out h.lists) }

  readied-step : Readied s n → Readied t n
  readied-step h = record { out = out-step h.out; lists = subst (λ x. HasReadied x n) (sym d.lists) (readied-scheduled s t.machine n event h.out h.lists) }

-- a quiet advance
none-any : (s : Schedule) → IsScheduled s → open_sections s.machine.runs ≡ [] → is_any s.awaited ≡ false
none-any s w quiet = false_from_ne_true (is_any s.awaited) (λ h.
    let r = any-flag s.awaited h in
    false≢true (sym (no_flag s.machine.runs quiet) ∙ flag-any (open_flags s.machine.runs) r.0 (w.awaited r.0 r.1)))

turns-quiet : (s t : Schedule) (answer : Answer) → IsScheduled s → DoesScheduled s events.Advance answer t →
    open_sections s.machine.runs ≡ [] → advanced s t.machine false ≡ t
turns-quiet s t answer w d quiet = ap (advanced s t.machine) (sym (none-any s w quiet)) ∙ sym d.lists

first-quiet : (s t : Schedule) (answer : Answer) (n : ℕ) → IsScheduled s → DoesScheduled s events.Advance answer t →
    open_sections s.machine.runs ≡ [] → IsOut s.machine.store.elements n → Waited t n
first-quiet s t answer n w d quiet o = record {
  out = out-step s t events.Advance answer w d n o;
  lists =
      subst (λ x. HasWaited x n) (turns-quiet s t answer w d quiet) (waited-turned s t.machine n);
}

second-quiet : (s t : Schedule) (answer : Answer) (n : ℕ) → IsScheduled s → DoesScheduled s events.Advance answer t →
    open_sections s.machine.runs ≡ [] → Waited s n → Readied t n
second-quiet s t answer n w d quiet h = record {
  out = out-step s t events.Advance answer w d n h.out;
  lists =
      subst (λ x. HasReadied x n) (turns-quiet s t answer w d quiet) (readied-turned s t.machine n h.lists);
}

-- a reap that finds nothing
nothing-kept : (s : Schedule) (n : ℕ) (e : Element) (since : List Section) (q : Queues) → IsScheduled s →
    HasReadied s n → first_ready s.queues ≡ None → slice_get s.machine.store.elements n ≡ Some e →
    e.life ≡ Unlinked since → slice_get s.queues e.map ≡ Some q → ⊥
nothing-kept s n e since q w h none at life there =
    let a : times n q.next ≡ 0 = (h e.map q there).0 in
    let b : times n q.waiting ≡ 0 = (h e.map q there).1 in
    let c : times n q.ready ≡ 0 = ap (times n) (none-ready s.queues none e.map q there) in
    let d = w.queued e.map n q there in
    let f = queued-here (slice_get s.machine.store.elements n) e since at life in
    omega arith

has-queues : (s : Schedule) (n : ℕ) (e : Element) → IsScheduled s → slice_get s.machine.store.elements n ≡ Some e →
    (q : Queues) × (slice_get s.queues e.map ≡ Some q)
has-queues s n e w at =
    let m = w.consistent.lengths n e at in
    let within : e.map < length s.machine.store.maps = slice_get_within s.machine.store.maps e.map m.0 m.1 in
    let same : length s.queues ≡ length s.machine.store.maps = w.queues in
    get-below s.queues e.map (omega arith)

life-gone : (l : Life) → l ≢ Linked → ((since : List Section) → l ≡ Unlinked since → ⊥) → l ≡ Reclaimed
life-gone Linked h k = absurd (h refl)
life-gone (Unlinked since) h k = absurd (k since refl)
life-gone Reclaimed h k = refl

all-gone : (s : Schedule) (n : ℕ) → IsScheduled s → Readied s n → first_ready s.queues ≡ None → HasLife s.machine.store.elements n Reclaimed
all-gone s n w h none =
    let e = h.out.element in
    let q = has-queues s n e w h.out.born in
    (e, h.out.born, life-gone e.life h.out.out (λ since life. nothing-kept s n e since q.0 w h.lists none h.out.born life q.1))

-- the histories
reaps-none : (s t : Schedule) (event : Event) (answer : Answer) → event ≡ events.Reap → answer ≡ answers.Reaped None →
    DoesScheduled s event answer t → first_ready s.queues ≡ None
reaps-none s t event answer e a d =
    let first : TakesFirst s events.Reap (answers.Reaped None) t.machine =
    subst (λ x. TakesFirst s events.Reap x t.machine) a
    (subst (λ x. TakesFirst s x answer t.machine) e d.first) in
    first

as-advance : (s t : Schedule) (event : Event) (answer : Answer) → event ≡ events.Advance →
    DoesScheduled s event answer t → DoesScheduled s events.Advance answer t
as-advance s t event answer e d = subst (λ x. DoesScheduled s x answer t) e d

drain-end : (s : Schedule) (evs : List Event) (ans : List Answer) (states : List Schedule) (n : ℕ) → IsScheduled s →
    IsScheduledHistory s evs ans states → Readied s n →
    (k : ℕ) (later : Machine) → slice_get evs k ≡ Some events.Reap → slice_get ans k ≡ Some (answers.Reaped None) →
    slice_get (machines (s ∷ states)) k ≡ Some later → HasLife later.store.elements n Reclaimed
drain-end s [] [] [] n w h r k later ek ak sk = absurd (none-some events.Reap ek)
drain-end s (event ∷ evs) (answer ∷ ans) (next ∷ states) n w h r zero later ek ak sk =
    subst (λ x. HasLife x.store.elements n Reclaimed) (same_Some s.machine later sk)
    (all-gone s n w r (reaps-none s next event answer (same_Some event events.Reap ek) (same_Some answer (answers.Reaped None) ak) h.0))
drain-end s (event ∷ evs) (answer ∷ ans) (next ∷ states) n w h r (suc k) later ek ak sk =
    drain-end next evs ans states n (stays_scheduled s next event answer w h.0) h.1 (readied-step s next event answer w h.0 n r) k later ek ak sk
drain-end s evs ans states n w h r k later ek ak sk = absurd h

drain-second : (s : Schedule) (evs : List Event) (ans : List Answer) (states : List Schedule) (n : ℕ) → IsScheduled s
    → IsScheduledHistory s evs ans states → Waited s n →
    (j k : ℕ) (second later : Machine) → IsQuietAdvance (machines (s ∷ states)) evs j second →
    slice_get evs k ≡ Some events.Reap → slice_get ans k ≡ Some (answers.Reaped None) →
    slice_get (machines (s ∷ states)) k ≡ Some later → j < k → HasLife later.store.elements n Reclaimed
drain-second s [] [] [] n w h r j k second later q ek ak sk less = absurd (none-some events.Reap ek)
drain-second s (event ∷ evs) (answer ∷ ans) (next ∷ states) n w h r j zero second later q ek ak sk less = absurd (omega arith)
drain-second s (event ∷ evs) (answer ∷ ans) (next ∷ states) n w h r zero (suc k) second later q ek ak sk less =
    let d = as-advance s next event answer (same_Some event events.Advance q.at) h.0 in
    let quiet : open_sections s.machine.runs ≡ [] = ap (λ x. open_sections x.runs) (same_Some s.machine second q.state) ∙ q.quiet in
    drain-end next evs ans states n (stays_scheduled s next event answer w h.0) h.1 (second-quiet s next answer n w d quiet r) k later ek ak sk
drain-second s (event ∷ evs) (answer ∷ ans) (next ∷ states) n w h r (suc j) (suc k) second later q ek ak sk less =
    drain-second next evs ans states n (stays_scheduled s next event answer w h.0) h.1
    (waited-step s next event answer w h.0 n r) j k second later
    (record { at = q.at; state = q.state; quiet = q.quiet }) ek ak sk (omega arith)
drain-second s evs ans states n w h r j k second later q ek ak sk less = absurd h

out-unlinked : (s : Schedule) (first : Machine) (n : ℕ) (since : List Section) → s.machine ≡ first →
    HasLife first.store.elements n (Unlinked since) → IsOut s.machine.store.elements n
out-unlinked s first n since e h = subst (λ x. IsOut x.store.elements n) (sym e)
    (record { element = h.0; born = h.1; out = λ l. linked≢unlinked since (sym l ∙ h.2) })

pub drains_from : (s : Schedule) (evs : List Event) (ans : List Answer) (states : List Schedule) → IsScheduled s →
    IsScheduledHistory s evs ans states → Drains (machines (s ∷ states)) evs ans
drains_from s [] [] [] w h i j k n first second later since p q ij ek ak sk jk life = absurd (none-some events.Reap ek)
drains_from s (event ∷ evs) (answer ∷ ans) (next ∷ states) w h i zero k n first second later since p q ij ek ak sk jk life = absurd (omega arith)
drains_from s (event ∷ evs) (answer ∷ ans) (next ∷ states) w h i (suc j) zero n first second later since p q ij ek ak sk jk life = absurd (omega arith)
drains_from s (event ∷ evs) (answer ∷ ans) (next ∷ states) w h zero (suc j) (suc k) n first second later since p q ij ek ak sk jk life =
    let d = as-advance s next event answer (same_Some event events.Advance p.at) h.0 in
    let same : s.machine ≡ first = same_Some s.machine first p.state in
    let quiet : open_sections s.machine.runs ≡ [] = ap (λ x. open_sections x.runs) same ∙ p.quiet in
    drain-second next evs ans states n (stays_scheduled s next event answer w h.0) h.1
    (first-quiet s next answer n w d quiet (out-unlinked s first n since same life)) j k second later
    (record { at = q.at; state = q.state; quiet = q.quiet }) ek ak sk (omega arith)
drains_from s (event ∷ evs) (answer ∷ ans) (next ∷ states) w h (suc i) (suc j) (suc k) n first second later since p q ij ek ak sk jk life =
    drains_from next evs ans states (stays_scheduled s next event answer w h.0) h.1 i j k n first second later since
    (record { at = p.at; state = p.state; quiet = p.quiet })
    (record { at = q.at; state = q.state; quiet = q.quiet }) (omega arith) ek ak sk (omega arith) life
drains_from s evs ans states w h i j k n first second later since p q ij ek ak sk jk life = absurd h

pub drains : (shapes : List MapShape) (programs : List Loaded) → AreShapes shapes →
    (evs : List Event) (ans : List Answer) (states : List Schedule) →
    IsScheduledHistory (start_schedule shapes programs) evs ans states →
    Drains (machines (start_schedule shapes programs ∷ states)) evs ans
drains shapes programs limits evs ans states h = drains_from (start_schedule shapes programs) evs ans states (starts_scheduled shapes programs limits) h

-- the first ready element may be reclaimed
reclaims-first : (s : Schedule) (n k : ℕ) → IsScheduled s → (d : Queued s.machine.store.elements k n) →
    AllEnded d.since (open_sections s.machine.runs) → IsReapable s.machine n
reclaims-first s n k w d ended =
    let m = w.consistent.lengths n d.element d.born in (
      d.element,
      given_of d.element.uses m.0,
      _,
      record {
        state = m.0;
        since = d.since;
        born = d.born;
        unlinked =
            d.life;
        ended = ended;
        there = m.1;
        given_is = refl;
        new_is = refl;
      },
    )

pub reapable_in : (s : Schedule) (n : ℕ) → IsScheduled s → first_ready s.queues ≡ Some n → IsReapable s.machine n
reapable_in s n w first =
    let p = first-index s.queues n first in
    let d = first-queued s n w p in
    let has : 0 < times n p.lists.ready = let a : times n p.lists.ready ≡ 1 + times n p.rest = ap (times n) p.ready_is
    ∙ times-first n n p.rest refl in omega arith in
    reclaims-first s n p.map_at w d ((w.waits p.map_at p.lists p.there).ended n d.element d.since has d.born d.life)

scheduled-along : (s : Schedule) (evs : List Event) (ans : List Answer) (states : List Schedule) → IsScheduled s →
    IsScheduledHistory s evs ans states → (j : ℕ) (later : Schedule) → slice_get (s ∷ states) j ≡ Some later →
    IsScheduled later
scheduled-along s evs ans states w h zero later at = subst IsScheduled (same_Some s later at) w
scheduled-along s [] [] [] w h (suc j) later at = absurd (none-some later at)
scheduled-along s (event ∷ evs) (answer ∷ ans) (next ∷ states) w h (suc j) later at =
    scheduled-along next evs ans states (stays_scheduled s next event answer w h.0) h.1 j later at
scheduled-along s evs ans states w h (suc j) later at = absurd h

pub reapable : (shapes : List MapShape) (programs : List Loaded) → AreShapes shapes →
    (evs : List Event) (ans : List Answer) (states : List Schedule) (j n : ℕ) (s : Schedule) →
    IsScheduledHistory (start_schedule shapes programs) evs ans states →
    slice_get (start_schedule shapes programs ∷ states) j ≡ Some s → first_ready s.queues ≡ Some n →
    IsReapable s.machine n
reapable shapes programs limits evs ans states j n s h at first =
    reapable_in s n (scheduled-along (start_schedule shapes programs) evs ans states
    (starts_scheduled shapes programs limits) h j s at) first

-- a reap of it is a step
takes-first : (s : Schedule) (n : ℕ) (e : Element) (taken : ReapedElement) (store : Store) →
    first_ready s.queues ≡ Some n → Reclaims s.machine.store (open_sections s.machine.runs) n e taken.given store →
    taken.map ≡ e.map → taken.key.items ≡ e.key →
    (new : Schedule) × DoesScheduled s events.Reap (answers.Reaped (Some taken)) new
takes-first s n e taken store first r map key =
    let es : store.elements ≡ slice_set s.machine.store.elements n (with_life Reclaimed e) = ap (λ z. z.elements) r.new_is in
    let gone : slice_get store.elements n ≡ Some (with_life Reclaimed e) = ap (λ l. slice_get l n) es ∙
    get-set_there s.machine.store.elements n e (with_life Reclaimed e) r.born in
    let same : length store.elements ≡ length s.machine.store.elements = ap length es ∙ length-set s.machine.store.elements n (with_life Reclaimed e) in (
      reaped s (with_store s.machine store),
      record {
        step = (n, e, store, r, map, key, refl);
        first = (n, r.since, first, (e, r.born, r.unlinked), (with_life Reclaimed e, gone, refl));
        oldest = oldest-none s.machine.store store same;
        lists = refl;
      },
    )

reclaims-as : (s : Store) (opened : List Section) (n : ℕ) (d e : Element) (given wanted : Given) (new : Store)
    (state : MapState) → Reclaims s opened n d given new → slice_get s.elements n ≡ Some e →
    slice_get s.maps e.map ≡ Some state → wanted ≡ given_of e.uses state → Reclaims s opened n e wanted new
reclaims-as s opened n d e given wanted new state r at there w =
    let one : d ≡ e = same_Some d e (sym r.born ∙ at) in
    let maps : r.state ≡ state = same_Some r.state state (sym r.there ∙ (ap (λ x. slice_get s.maps x.map) one ∙ there)) in
    let given_same : given ≡ wanted = r.given_is ∙ (ap (λ x. given_of x.uses r.state) one ∙ (ap (given_of e.uses) maps ∙ sym w)) in
    subst (λ x. Reclaims s opened n e x new) given_same (subst (λ x. Reclaims s opened n x given new) one r)

pub reap_steps : (s : Schedule) (n : ℕ) (e : Element) (state : MapState) (taken : ReapedElement) → IsScheduled s →
    first_ready s.queues ≡ Some n → slice_get s.machine.store.elements n ≡ Some e →
    slice_get s.machine.store.maps e.map ≡ Some state →
    taken.map ≡ e.map → taken.key.items ≡ e.key → taken.given ≡ given_of e.uses state → (new : Schedule) ×
    DoesScheduled s events.Reap (answers.Reaped (Some taken)) new
reap_steps s n e state taken w first at there map key given =
    let r = reapable_in s n w first in
    takes-first s n e taken r.2 first (reclaims-as s.machine.store (open_sections s.machine.runs) n r.0 e r.1 taken.given r.2 state r.3 at there given) map key
