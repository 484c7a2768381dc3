-- The lists after each change of the elements.
use Rattle.bpf_model.proofs.Prelude.{◌≡◌, ◌≢◌, ◌∙◌, ℕ, zero, suc, ◌+◌, ◌<◌, List, [], ◌∷◌, ◌++◌, map, length, Some, refl, sym, ap, arith, Bool, true, false}
use Rattle.bpf_model.proofs.Prelude.{slice_get, slice_set, slice_index, ◌==◌, ◌&&◌, eqb-true, eq-eqb, false_from_ne_true, cond-true, cond-false, none-some}
use Rattle.bpf_model.proofs.Prelude.{same_Some, slice_get_within, map-append, append-nil, Section, Element, Life, Linked, Unlinked, Reclaimed, is_linked}
use Rattle.bpf_model.proofs.Prelude.{with_life, with_value, is_unlinked, Queues, Schedule, retired_in, unlinked_between, turned, still_open, times, named}
use Rattle.model_laws.proofs.Prelude.{IsScheduled}
use Rattle.model_laws.proofs.Queueing.{queued-of}
use Rattle.model_laws.proofs.Lists.{map-same, stands-in}

-- what is unlinked between two lists of elements
same-life : (l : Life) (b : Bool) → (is_linked l && is_unlinked l && b) ≡ false
same-life Linked b = refl
same-life (Unlinked since) b = refl
same-life Reclaimed b = refl

-- the same elements, and perhaps more
pub between-more : (k b : ℕ) (es more : List Element) → unlinked_between k b es (es ++ more) ≡ []
between-more k b [] more = refl
between-more k b (e ∷ es) more = cond-false (is_linked e.life && is_unlinked e.life && (e.map == k)) _ _
    (same-life e.life (e.map == k)) ∙ between-more k (suc b) es more

pub between-same : (k b : ℕ) (es : List Element) → unlinked_between k b es es ≡ []
between-same k b es = ap (unlinked_between k b es) (sym (append-nil es)) ∙ between-more k b es []

test-one : (e : Element) (k : ℕ) (opened : List Section) → e.life ≡ Linked → (is_linked e.life && is_unlinked (Unlinked opened) && (e.map == k)) ≡ (e.map == k)
test-one e k opened h = ap (λ l. is_linked l && is_unlinked (Unlinked opened) && (e.map == k)) h

-- the births that an event unlinks, where one element is unlinked
pub between-one : (k b : ℕ) (es more : List Element) (n a : ℕ) (e : Element) (opened : List Section) →
    slice_get es n ≡ Some e → e.life ≡ Linked → e.map ≡ k → a ≡ b + n →
    unlinked_between k b es (slice_set es n (with_life (Unlinked opened) e) ++ more) ≡ a ∷ []
between-one k b [] more n a e opened at life is same = absurd (none-some e at)
between-one k b (x ∷ es) more zero a e opened at life is same =
    let y : x ≡ e = same_Some x e at in
    let t : (is_linked x.life && is_unlinked (Unlinked opened) && (x.map == k)) ≡ true =
    ap (λ (z : Element). is_linked z.life && is_unlinked (Unlinked opened) && (z.map == k)) y ∙
    (test-one e k opened life ∙ eq-eqb e.map k is) in
    cond-true _ _ _ t ∙ (ap (λ l. b ∷ l) (between-more k (suc b) es more) ∙ ap (λ z. z ∷ []) (let w : b ≡ a = omega arith in w))
between-one k b (x ∷ es) more (suc n) a e opened at life is same =
    cond-false (is_linked x.life && is_unlinked x.life && (x.map == k)) _ _ (same-life x.life (x.map == k)) ∙
    between-one k (suc b) es more n a e opened at life is (omega arith)

test-none : (x e : Element) (j : ℕ) (l : Life) → x ≡ e → e.map ≢ j → (is_linked x.life && is_unlinked l && (x.map == j)) ≡ false
test-none x e j l same ne = last (is_linked x.life) (is_unlinked l) (x.map == j)
    (false_from_ne_true (x.map == j) (λ t. ne (sym (ap (λ (z : Element). z.map) same) ∙ eqb-true x.map j t)))
  where
    last : (a b c : Bool) → c ≡ false → (a && b && c) ≡ false
    last true true c h = h
    last true false c h = refl
    last false b c h = refl

pub between-other : (j b : ℕ) (es more : List Element) (n : ℕ) (e : Element) (l : Life) → slice_get es n ≡ Some e →
    e.map ≢ j → unlinked_between j b es (slice_set es n (with_life l e) ++ more) ≡ []
between-other j b [] more n e l at ne = absurd (none-some e at)
between-other j b (x ∷ es) more zero e l at ne = cond-false (is_linked x.life && is_unlinked l && (x.map == j)) _ _
    (test-none x e j l (same_Some x e at) ne) ∙ between-more j (suc b) es more
between-other j b (x ∷ es) more (suc n) e l at ne = cond-false
    (is_linked x.life && is_unlinked x.life && (x.map == j)) _ _ (same-life x.life (x.map == j)) ∙
    between-other j (suc b) es more n e l at ne

-- no birth is unlinked where an element has another value
pub between-value : (j b : ℕ) (es : List Element) (n : ℕ) (e : Element) (value : List ℕ) → slice_get es n ≡ Some e →
    unlinked_between j b es (slice_set es n (with_value value e)) ≡ []
between-value j b [] n e value at = absurd (none-some e at)
between-value j b (x ∷ es) zero e value at =
    let t : (is_linked x.life && is_unlinked e.life && (x.map == j)) ≡ false =
    ap (λ (z : Element). is_linked x.life && is_unlinked z.life && (x.map == j)) (sym (same_Some x e at)) ∙
    same-life x.life (x.map == j) in
    cond-false (is_linked x.life && is_unlinked e.life && (x.map == j)) _ _ t ∙ between-same j (suc b) es
between-value j b (x ∷ es) (suc n) e value at = cond-false (is_linked x.life && is_unlinked x.life && (x.map == j)) _
    _ (same-life x.life (x.map == j)) ∙ between-value j (suc b) es n e value at

-- births that stand in the lists keep their map slots
module _ (s : Schedule) (w : IsScheduled s) (k : ℕ) (q : Queues) (at : slice_get s.queues k ≡ Some q)
    (slots names : List ℕ) (h : (n : ℕ) → n < length s.machine.store.elements →
    slice_index names n ≡ slice_index slots n) where
  queued-name : (n : ℕ) → 0 < times n q.next + times n q.waiting + times n q.ready → slice_index slots n ≡ slice_index names n
  queued-name n p = let x = queued-of s k n q w at p in sym (h n (slice_get_within s.machine.store.elements n x.element x.born))

  pub named-kept : named slots q ≡ named names q
  named-kept =
      let a : map (slice_index slots) q.next ≡ map (slice_index names) q.next =
      map-same (slice_index slots) (slice_index names) q.next
      (λ a x g. let z = stands-in q.next a x g in queued-name x (omega arith)) in
      let b : map (slice_index slots) q.waiting ≡ map (slice_index names) q.waiting =
      map-same (slice_index slots) (slice_index names) q.waiting
      (λ a x g. let z = stands-in q.waiting a x g in queued-name x (omega arith)) in
      let d : map (slice_index slots) q.ready ≡ map (slice_index names) q.ready =
      map-same (slice_index slots) (slice_index names) q.ready
      (λ a x g. let z = stands-in q.ready a x g in queued-name x (omega arith)) in
      λ i. record { next = a i; waiting = b i; ready = d i }

-- retired_in, where nothing is unlinked, or one is
pub more-none : (k : ℕ) (es fs : List Element) (q : Queues) → unlinked_between k 0 es fs ≡ [] → retired_in k es fs q ≡ q
more-none k es fs q h = ap (λ l. let z : Queues = record {
  next = q.next ++ l;
  waiting = q.waiting;
  ready =
      q.ready;
} in z) h ∙ ap (λ l. let z : Queues = record { next = l; waiting = q.waiting; ready = q.ready } in z)
    (append-nil q.next)

pub more-one : (k n : ℕ) (slots : List ℕ) (es fs : List Element) (q : Queues) → unlinked_between k 0 es fs ≡ n ∷ [] →
    named slots (retired_in k es fs q) ≡ record {
      next = map (slice_index slots) q.next ++ slice_index slots n ∷ [];
      waiting = map (slice_index slots) q.waiting;
      ready = map (slice_index slots) q.ready;
    }
more-one k n slots es fs q h =
    ap (λ l. named slots (let z : Queues = record { next = q.next ++ l; waiting = q.waiting; ready = q.ready } in z)) h
    ∙ ap (λ l. let z : Queues = record {
      next = l;
      waiting = map (slice_index slots) q.waiting;
      ready =
          map (slice_index slots) q.ready;
    } in z) (map-append (slice_index slots) q.next (n ∷ []))

pub named-turned : (slots : List ℕ) (q : Queues) → turned (named slots q) ≡ named slots (turned q)
named-turned slots q = ap (λ l. let z : Queues = record {
  next = [];
  waiting = map (slice_index slots) q.next;
  ready =
      l;
} in z) (sym (map-append (slice_index slots) q.ready q.waiting))

-- the awaited flags stay as they are where each is still open
pub still-same : (a b : List Bool) → length a ≡ length b → ((r : ℕ) → slice_get a r ≡ Some true → slice_get b r ≡ Some true) → still_open a b ≡ a
still-same [] [] l h = refl
still-same [] (y ∷ b) l h = refl
still-same (x ∷ a) [] l h = absurd (omega arith)
still-same (x ∷ a) (y ∷ b) l h = ap (λ z. z ∷ still_open a b) (one x y (h 0)) ∙ ap (λ l. x ∷ l) (still-same a b (omega arith) (λ r g. h (suc r) g))
  where
    one : (x y : Bool) → (Some x ≡ Some true → Some y ≡ Some true) → (x && y) ≡ x
    one true y h = same_Some y true (h refl)
    one false y h = refl
