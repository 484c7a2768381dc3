-- What is queued is unlinked, and what it waits for stays.
use Rattle.bpf_model.proofs.Prelude.{◌≡◌, ◌≢◌, ℕ, ◌+◌, ◌<◌, ◌≤◌, List, map, Option, Some, None, inl, inr, refl, sym, ap, ◌∙◌, arith, subst, Bool, true, false}
use Rattle.bpf_model.proofs.Prelude.{slice_get, ◌==◌, ◌&&◌, if◌then◌else◌, eqb-true, eq-eqb, false_from_ne_true, and_parts, false≢true, lt-ltb, and_right}
use Rattle.bpf_model.proofs.Prelude.{none-some, same_Some, get-map, flattened, Section, Has, AllEnded, Element, Life, Linked, Unlinked, Reclaimed, is_linked}
use Rattle.bpf_model.proofs.Prelude.{is_unlinked, Store, Run, open_sections, run_at, Queues, Schedule, is_open, open_flags, times, zero-add}
use Rattle.model_laws.proofs.Prelude.{queued_in, Waits, IsScheduled, AllBegun}
use Rattle.model_laws.proofs.Moves.{RunsMove, run-before}
use Rattle.model_laws.proofs.Stores.{LifeMoves, Stays, Unlinks, Ends, Alters, StoreMoves}
use Rattle.model_laws.proofs.Past.{ended-later}
use Rattle.model_laws.proofs.Keeping.{element-before}
use Rattle.model_laws.proofs.Counting.{newly}
use Rattle.std.proofs.Math.Nat.{add-zero}
use Rattle.model_laws.proofs.Lives.{linked≢unlinked, reclaimed≢unlinked}
use Rattle.model_laws.proofs.Tallies.{one_of, one-most}

-- what is queued is an unlinked element of the map
pub record Queued (es : List Element) (k n : ℕ) : Type 0 where
  pub element : Element
  pub since : List Section
  pub born : slice_get es n ≡ Some element
  pub life : element.life ≡ Unlinked since
  pub in_map : element.map ≡ k

one-true : (b : Bool) → 0 < (if b then 1 else 0) → b ≡ true
one-true true h = refl
one-true false h = absurd (omega arith)

unlinked-life : (l : Life) → is_unlinked l ≡ true → (since : List Section) × (l ≡ Unlinked since)
unlinked-life Linked h = absurd (false≢true h)
unlinked-life (Unlinked since) h = (since, refl)
unlinked-life Reclaimed h = absurd (false≢true h)

queued-option : (es : List Element) (k n : ℕ) (o : Option Element) → slice_get es n ≡ o → 0 < queued_in k o → Queued es k n
queued-option es k n None at h = absurd (omega arith)
queued-option es k n (Some e) at h =
    let b = and_parts (is_unlinked e.life) (e.map == k) (one-true (is_unlinked e.life && (e.map == k)) h) in
    let l = unlinked-life e.life b.0 in
    record { element = e; since = l.0; born = at; life = l.1; in_map = eqb-true e.map k b.1 }

pub queued-of : (s : Schedule) (k n : ℕ) (q : Queues) → IsScheduled s → slice_get s.queues k ≡ Some q →
    0 < times n q.next + times n q.waiting + times n q.ready → Queued s.machine.store.elements k n
queued-of s k n q w at h = queued-option s.machine.store.elements k n (slice_get s.machine.store.elements n) refl (subst (λ x. 0 < x) (w.queued k n q at) h)

pub queued-most : (k : ℕ) (o : Option Element) → queued_in k o ≤ 1
queued-most k None = omega arith
queued-most k (Some e) = one-most (is_unlinked e.life && (e.map == k))

pub queued-reclaimed : (k : ℕ) (o : Option Element) (e : Element) → o ≡ Some e → e.life ≡ Reclaimed → queued_in k o ≡ 0
queued-reclaimed k o e h life = ap (queued_in k) h ∙ ap (λ l. one_of (is_unlinked l && (e.map == k))) life

pub queued-elsewhere : (k : ℕ) (o : Option Element) (e : Element) → o ≡ Some e → e.map ≢ k → queued_in k o ≡ 0
queued-elsewhere k o e h ne = ap (queued_in k) h ∙ ap one_of
    (and_right (is_unlinked e.life) (e.map == k) (false_from_ne_true (e.map == k) (λ t. ne (eqb-true e.map k t))))

pub queued-here : (o : Option Element) (e : Element) (since : List Section) → o ≡ Some e → e.life ≡ Unlinked since → queued_in e.map o ≡ 1
queued-here o e since h life = ap (queued_in e.map) h ∙ (ap (λ l. one_of (is_unlinked l && (e.map == e.map))) life ∙ ap one_of (eq-eqb e.map e.map refl))

-- it kept the same sections before the step
life-before : (reap : Bool) (opened a b : List Section) (old new : Life) → LifeMoves reap opened old new →
    old ≡ Unlinked a → new ≡ Unlinked b → old ≡ Unlinked b
life-before reap opened a b old new (Stays e) h g = sym e ∙ g
life-before reap opened a b old new (Unlinks l e) h g = absurd (linked≢unlinked a (sym l ∙ h))
life-before reap opened a b old new (Ends since r l ended e) h g = absurd (reclaimed≢unlinked b (sym e ∙ g))

since-before : (reap : Bool) (opened : List Section) (s new : Store) (k n : ℕ) (f : Element) (since : List Section) →
    StoreMoves reap opened s new → Queued s.elements k n → slice_get new.elements n ≡ Some f → f.life ≡ Unlinked since
    → (e : Element) × (slice_get s.elements n ≡ Some e) × (e.life ≡ Unlinked since)
since-before reap opened s new k n f since mv q at life = elim (element-before reap opened s new n f mv at) [
  | inl x ↦
      let same : q.element ≡ x.old = same_Some q.element x.old (sym q.born ∙ x.there) in
      (x.old, x.there, life-before reap opened q.since since x.old.life f.life x.alters.life (ap (λ z. z.life) (sym same) ∙ q.life) life)
  | inr x ↦ absurd (linked≢unlinked since (sym x.linked ∙ life))
]

-- a run that is inside is flagged as open
pub open-flag : (runs : List (Option Run)) (r : ℕ) (run : Run) → run_at runs r ≡ Some run → 0 < run.depth → slice_get (open_flags runs) r ≡ Some true
open-flag runs r run at inside = get-map is_open runs r (Some run) (flattened (slice_get runs r) run at) ∙ ap Some (lt-ltb 0 run.depth inside)

-- a section that an element keeps, under another name of the same run and number
has-same : (since : List Section) (name old_name count old_count : ℕ) → name ≡ old_name → count ≡ old_count →
    Has since (record { run = name; number = count }) → Has since (record { run = old_name; number = old_count })
has-same since name old_name count old_count a b h = subst (λ x. Has since (record { run = old_name; number = x })) b
    (subst (λ x. Has since (record { run = x; number = count })) a h)

module _ (reap : Bool) (s new : Schedule) (w : IsScheduled s) (runs : RunsMove s.machine new.machine)
    (mv : StoreMoves reap (open_sections s.machine.runs) s.machine.store new.machine.store) where
  ended-kept : (k n : ℕ) (q : Queues) (f : Element) (since : List Section) → slice_get s.queues k ≡ Some q →
      0 < times n q.ready → slice_get new.machine.store.elements n ≡ Some f → f.life ≡ Unlinked since →
      AllEnded since (open_sections new.machine.runs)
  ended-kept k n q f since at has born life =
      let d = queued-of s k n q w at (omega arith) in
      let b = since-before reap (open_sections s.machine.runs) s.machine.store new.machine.store k n f since mv d born life in
      ended-later s.machine new.machine since runs (w.consistent.begun n b.0 since b.1 b.2) ((w.waits k q at).ended n b.0 since has b.1 b.2)

  awaited-before : (k n : ℕ) (q : Queues) (e : Element) (since : List Section) (r : ℕ) (run : Run) →
      slice_get s.queues k ≡ Some q → 0 < times n q.waiting → slice_get s.machine.store.elements n ≡ Some e →
      e.life ≡ Unlinked since → AllBegun s.machine since →
      run_at new.machine.runs r ≡ Some run → 0 < run.depth → Has since (record { run = run.name; number = run.sections }) → slice_get s.awaited r ≡ Some true
  awaited-before k n q e since r run at has born life begun there inside h = elim (run-before s.machine new.machine r run runs there) [
    | inl x ↦ elim (x.goes.section inside) [
      | inl y ↦
          let same = has-same since run.name x.old.name run.sections x.old.sections x.goes.name y.1 h in
          (w.waits k q at).awaits n e since r x.old has born life x.there y.0 same
      | inr y ↦
          let most : run.sections ≤ x.old.sections = (begun (record { run = run.name; number = run.sections }) h).opened r x.old x.there (sym x.goes.name) in
          absurd (omega arith)
    ]
    | inr x ↦
        let before : run.name < s.machine.started = (begun (record { run = run.name; number = run.sections }) h).started in
        let now : s.machine.started ≡ run.name = ap (λ z. z.name) x.is.2 in
        absurd (omega arith)
  ]

  pub keeps-waits : ((r : ℕ) (run : Run) → run_at new.machine.runs r ≡ Some run → 0 < run.depth →
      slice_get s.awaited r ≡ Some true → slice_get new.awaited r ≡ Some true) →
      (k : ℕ) (q later : Queues) → slice_get s.queues k ≡ Some q → later.waiting ≡ q.waiting →
      ((n : ℕ) → times n later.ready ≤ times n q.ready) → Waits new later
  keeps-waits keeps k q later at waiting ready = record {
    ended = λ n f since has born life. let less : times n later.ready ≤ times n q.ready = ready n in ended-kept k n q f since at (omega arith) born life;
    awaits = λ n f since r run has born life there inside h.
        let waited : 0 < times n q.waiting = subst (λ l. 0 < times n l) waiting has in
        let d = queued-of s k n q w at (omega arith) in
        let b = since-before reap (open_sections s.machine.runs) s.machine.store new.machine.store k n f since mv d born life in
        keeps r run there inside (awaited-before k n q b.0 since r run at waited b.1 b.2 (w.consistent.begun n b.0 since b.1 b.2) there inside h);
  }

-- the counts after a step that isn't a reap
abbrev queued_life : ℕ → Life → ℕ → ℕ
queued_life k l map = if is_unlinked l && (map == k) then 1 else 0

abbrev newly_life : ℕ → Life → Life → ℕ → ℕ
newly_life k l new map = if is_linked l && is_unlinked new && (map == k) then 1 else 0

count-same : (k : ℕ) (l : Life) (map : ℕ) → queued_life k l map ≡ queued_life k l map + newly_life k l l map
count-same k Linked map = refl
count-same k (Unlinked since) map = sym (add-zero (if map == k then 1 else 0))
count-same k Reclaimed map = refl

count-unlinked : (k : ℕ) (opened : List Section) (map : ℕ) →
    queued_life k (Unlinked opened) map ≡ queued_life k Linked map + newly_life k Linked (Unlinked opened) map
count-unlinked k opened map = sym (zero-add (if map == k then 1 else 0))

count-life : (k : ℕ) (opened : List Section) (old new : Life) (map : ℕ) → LifeMoves false opened old new →
    queued_life k new map ≡ queued_life k old map + newly_life k old new map
count-life k opened old new map (Stays e) = subst (λ x. queued_life k x map ≡ queued_life k old map + newly_life k old x map) (sym e) (count-same k old map)
count-life k opened old new map (Unlinks l e) =
    subst (λ x. queued_life k new map ≡ queued_life k x map + newly_life k x new map) (sym l)
    (subst (λ x. queued_life k x map ≡ queued_life k Linked map + newly_life k Linked x map) (sym e)
    (count-unlinked k opened map))
count-life k opened old new map (Ends since r l ended e) = absurd (false≢true r)

count-altered : (k : ℕ) (opened : List Section) (e f : Element) → Alters false opened e f →
    queued_in k (Some f) ≡ queued_in k (Some e) + newly k (Some e) (Some f)
count-altered k opened e f a = ap (queued_life k f.life) a.in_map ∙ count-life k opened e.life f.life e.map a.life

count-option : (k n : ℕ) (opened : List Section) (s new : Store) → StoreMoves false opened s new →
    (o p : Option Element) → slice_get s.elements n ≡ o → slice_get new.elements n ≡ p →
    queued_in k p ≡ queued_in k o + newly k o p
count-option k n opened s new mv None None h g = refl
count-option k n opened s new mv None (Some f) h g = elim (mv.back n f g) [
  | inl x ↦ absurd (none-some x.0 (sym h ∙ x.1))
  | inr x ↦ ap (λ l. queued_life k l f.map) x.linked
]
count-option k n opened s new mv (Some e) None h g = let f = mv.forth n e h in absurd (none-some f.0 (sym g ∙ f.1))
count-option k n opened s new mv (Some e) (Some f) h g =
    let a = mv.forth n e h in
    let same : a.0 ≡ f = same_Some a.0 f (sym a.1 ∙ g) in
    count-altered k opened e f (subst (Alters false opened e) same a.2)

pub count-step : (k n : ℕ) (opened : List Section) (s new : Store) → StoreMoves false opened s new →
    queued_in k (slice_get new.elements n) ≡ queued_in k (slice_get s.elements n) + newly k (slice_get s.elements n)
    (slice_get new.elements n)
count-step k n opened s new mv = count-option k n opened s new mv (slice_get s.elements n) (slice_get new.elements n) refl refl
