-- What a world tells of itself is what its machine counts.
use Rattle.bpf_model.proofs.Prelude.{◌≡◌, ◌≢◌, ◌∙◌, ℕ, zero, suc, ◌+◌, ◌<◌, ◌≤◌, List, [], ◌∷◌, length, Bool, true, false, Option, Some, None, refl, sym, ap}
use Rattle.bpf_model.proofs.Prelude.{arith, slice_get, ◌==◌, ◌&&◌, count_by, is_some, map, if◌then◌else◌, sum_by, eq-eqb, eqb-true, false≢true, sum_by-cons}
use Rattle.bpf_model.proofs.Prelude.{same_Some, slice_get_within, Element, linked_count, is_linked, Loaded, Machine, Run, is_inside, open_sections}
use Rattle.bpf_model.proofs.Prelude.{section_of, MapState, RunSlotRefines, Tracks, TracksSchedule, Schedule, is_open, Section, MapView, RunView, WorldView}
use Rattle.bpf_model.proofs.Prelude.{get-below}
use Rattle.world.proofs.Prelude.{stat_of}
use Rattle.map_kinds.specs.Counting.{linked_in, worn_in}
use Rattle.model_laws.proofs.Reached.{tracked_is_scheduled}
use Rattle.model_laws.proofs.Tallies.{count-cons, of-other, one_of}
use Rattle.shared_books.specs.Totals.{machine_stat}
use Rattle.shared_books.proofs.CountingUnlinked.{unlinked-now}

-- how many elements are linked in so many maps from one on
linked_from : ℕ → ℕ → List Element → ℕ
linked_from k zero es = 0
linked_from k (suc n) es = linked_count k es + linked_from (suc k) n es

linked-maps : (vs : List MapView) (k : ℕ) (es : List Element) →
    ((j : ℕ) (v : MapView) → slice_get vs j ≡ Some v → linked_in v ≡ linked_count (k + j) es) →
    sum_by linked_in vs ≡ linked_from k (length vs) es
unfolding linked_from
linked-maps [] k es h = refl
linked-maps (v ∷ vs) k es h =
    let a = sum_by-cons linked_in v vs in
    let at : k + 0 ≡ k = omega arith in
    let first : linked_in v ≡ linked_count k es = h 0 v refl ∙ ap (λ x. linked_count x es) at in
    let rest = linked-maps vs (suc k) es (λ j x there. let next : k + suc j ≡ suc k + j =
    omega arith in h (suc j) x there ∙ ap (λ z. linked_count z es) next) in
    omega (arith, a, first, rest)

linked-none : (n k : ℕ) → linked_from k n [] ≡ 0
unfolding linked_from
linked-none zero k = refl
linked-none (suc n) k = let rest = linked-none n (suc k) in omega (arith, rest)

not-here : (b : Bool) (m k : ℕ) → (m ≡ k → ⊥) → one_of (b && (m == k)) ≡ 0
not-here true m k ne = of-other m k ne
not-here false m k ne = refl

here : (b : Bool) (m k : ℕ) → m ≡ k → one_of (b && (m == k)) ≡ one_of b
here true m k e = ap one_of (eq-eqb m k e)
here false m k e = refl

-- an element of an earlier map
before : (n k : ℕ) (e : Element) (es : List Element) → e.map < k → linked_from k n (e ∷ es) ≡ linked_from k n es
unfolding linked_from
before zero k e es l = refl
before (suc n) k e es l =
    let c = count-cons (λ (x : Element). is_linked x.life && (x.map == k)) e es in
    let z = not-here (is_linked e.life) e.map k (λ s. absurd (omega (arith, l, s))) in
    let rest = before n (suc k) e es (omega (arith, l)) in
    omega (arith, c, z, rest)

here-or-later : (n k : ℕ) (e : Element) (es : List Element) (t : Bool) → (e.map == k) ≡ t → k ≤ e.map →
    (k < e.map → linked_from (suc k) n (e ∷ es) ≡ one_of (is_linked e.life) + linked_from (suc k) n es)
    → linked_from k (suc n) (e ∷ es) ≡ one_of (is_linked e.life) + linked_from k (suc n) es
unfolding linked_from
here-or-later n k e es true same l later =
    let s : e.map ≡ k = eqb-true e.map k same in
    let c = count-cons (λ (x : Element). is_linked x.life && (x.map == k)) e es in
    let one = here (is_linked e.life) e.map k s in
    let rest = before n (suc k) e es (omega (arith, s)) in
    omega (arith, c, one, rest)
here-or-later n k e es false other l later =
    let ne : e.map ≢ k = λ s. absurd (false≢true (sym other ∙ eq-eqb e.map k s)) in
    let c = count-cons (λ (x : Element). is_linked x.life && (x.map == k)) e es in
    let z = not-here (is_linked e.life) e.map k ne in
    let rest = later (omega (arith, l, ne)) in
    omega (arith, c, z, rest)

inside : (n k : ℕ) (e : Element) (es : List Element) → k ≤ e.map → e.map < k + n → linked_from k n (e ∷ es) ≡ one_of (is_linked e.life) + linked_from k n es
inside zero k e es a b = absurd (omega (arith, a, b))
inside (suc n) k e es a b = here-or-later n k e es (e.map == k) refl a (λ further. inside n (suc k) e es (omega (arith, further)) (omega (arith, b)))

linked-all : (es : List Element) (n : ℕ) → ((i : ℕ) (e : Element) → slice_get es i ≡ Some e → e.map < n) →
    linked_from 0 n es ≡ count_by (λ e. is_linked e.life) es
linked-all [] n h = linked-none n 0
linked-all (e ∷ es) n h =
    let one = inside n 0 e es (omega arith) (let l = h 0 e refl in omega (arith, l)) in
    let rest = linked-all es n (λ i x at. h (suc i) x at) in
    let c = count-cons (λ (x : Element). is_linked x.life) e es in
    omega (arith, one, rest, c)

worn-all : (vs : List MapView) (ms : List MapState) → length vs ≡ length ms →
    ((k : ℕ) (v : MapView) (m : MapState) → slice_get vs k ≡ Some v → slice_get ms k ≡ Some m → v.worn ≡ m.worn) →
    sum_by worn_in vs ≡ sum_by (λ s. s.worn) ms
worn-all [] [] l h = refl
worn-all [] (m ∷ ms) l h = absurd (omega (arith, l))
worn-all (v ∷ vs) [] l h = absurd (omega (arith, l))
worn-all (v ∷ vs) (m ∷ ms) l h =
    let a = sum_by-cons worn_in v vs in
    let b = sum_by-cons (λ (s : MapState). s.worn) m ms in
    let first : v.worn ≡ m.worn = h 0 v m refl refl in
    let rest = worn-all vs ms (omega (arith, l)) (λ k x y hx hy. h (suc k) x y hx hy) in
    omega (arith, a, b, first, rest)

runs-all : (slots : List ℕ) (es : List Element) (programs : List Loaded) (ws : List (Option RunView))
    (rs : List (Option Run)) → ((r : ℕ) → RunSlotRefines slots es programs (slice_get ws r) (slice_get rs r)) →
    count_by is_some ws ≡ count_by is_some rs
runs-all slots es programs [] [] h = refl
runs-all slots es programs [] (None ∷ rs) h = absurd (h 0)
runs-all slots es programs [] (Some r ∷ rs) h = absurd (h 0)
runs-all slots es programs (None ∷ ws) [] h = absurd (h 0)
runs-all slots es programs (Some w ∷ ws) [] h = absurd (h 0)
runs-all slots es programs (None ∷ ws) (Some r ∷ rs) h = absurd (h 0)
runs-all slots es programs (Some w ∷ ws) (None ∷ rs) h = absurd (h 0)
runs-all slots es programs (None ∷ ws) (None ∷ rs) h =
    let a = count-cons {A = Option RunView} is_some None ws in
    let b = count-cons {A = Option Run} is_some None rs in
    let rest = runs-all slots es programs ws rs (λ r. h (suc r)) in
    omega (arith, a, b, rest)
runs-all slots es programs (Some w ∷ ws) (Some r ∷ rs) h =
    let a = count-cons {A = Option RunView} is_some (Some w) ws in
    let b = count-cons {A = Option Run} is_some (Some r) rs in
    let rest = runs-all slots es programs ws rs (λ r. h (suc r)) in
    omega (arith, a, b, rest)

section-there : (b : Bool) (s : Section) (xs : List Section) → length (if b then s ∷ xs else xs) ≡ one_of b + length xs
section-there true s xs = omega arith
section-there false s xs = omega arith

open-all : (rs : List (Option Run)) → count_by (λ b. b) (map is_open rs) ≡ length (open_sections rs)
open-all [] = refl
open-all (None ∷ rs) =
    let a = count-cons (λ (b : Bool). b) false (map is_open rs) in
    let rest = open-all rs in
    omega (arith, a, rest)
open-all (Some run ∷ rs) =
    let a = count-cons (λ (b : Bool). b) (is_inside run) (map is_open rs) in
    let b = section-there (is_inside run) (section_of run) (open_sections rs) in
    let rest = open-all rs in
    omega (arith, a, b, rest)

module _ (w : WorldView) (s : Schedule) (t : TracksSchedule w s) where
  abbrev m : Machine
  m = s.machine

  same-count : length w.maps ≡ length m.store.maps
  same-count = t.refines.maps.0

  -- what the machine has of each map that the world has
  at-map : (k : ℕ) (v : MapView) → slice_get w.maps k ≡ Some v → (x : MapState) × (slice_get m.store.maps k ≡ Some x)
      × (linked_in v ≡ linked_count (0 + k) m.store.elements) × (v.worn ≡ x.worn)
  at-map k v here =
      let count = same-count in
      let queues : length s.queues ≡ length m.store.maps = t.refines.maps.1 in
      let within = slice_get_within w.maps k v here in
      let state = get-below m.store.maps k (omega (arith, within, count)) in
      let queue = get-below s.queues k (omega (arith, within, count, queues)) in
      let r = t.refines.map k v state.0 queue.0 here state.1 queue.1 in
      let zeroth : k ≡ 0 + k = omega arith in
      (state.0, state.1, r.elements.counted ∙ ap (λ n. linked_count n m.store.elements) zeroth, sym (ap (λ (y : MapState). y.worn) r.state))

  in-maps : (i : ℕ) (e : Element) → slice_get m.store.elements i ≡ Some e → e.map < length w.maps
  in-maps i e there =
      let l = (tracked_is_scheduled w s t).consistent.lengths i e there in
      let within = slice_get_within m.store.maps e.map l.0 l.1 in
      let count = same-count in
      omega (arith, within, count)

  linked-now : sum_by linked_in w.maps ≡ count_by (λ e. is_linked e.life) m.store.elements
  linked-now = linked-maps w.maps 0 m.store.elements (λ k v here. (at-map k v here).2) ∙ linked-all m.store.elements (length w.maps) in-maps

  worn-same : (k : ℕ) (v : MapView) (x : MapState) → slice_get w.maps k ≡ Some v → slice_get m.store.maps k ≡ Some x → v.worn ≡ x.worn
  worn-same k v x here there =
      let a = at-map k v here in
      a.3 ∙ ap (λ (y : MapState). y.worn) (same_Some a.0 x (sym a.1 ∙ there))

  worn-now : sum_by worn_in w.maps ≡ sum_by (λ x. x.worn) m.store.maps
  worn-now = worn-all w.maps m.store.maps same-count worn-same

  runs-now : count_by is_some w.runs ≡ count_by is_some m.runs
  runs-now = runs-all t.refines.slots m.store.elements m.programs w.runs m.runs t.refines.runs

  open-now : count_by (λ b. b) w.opened ≡ length (open_sections m.runs)
  open-now = ap (λ (bs : List Bool). count_by (λ b. b) bs) t.refines.opened ∙ open-all m.runs

  pub stat-now : stat_of w ≡ machine_stat m
  stat-now = λ j. record {
    linked = linked-now j;
    unlinked = unlinked-now w s t j;
    given = t.refines.given j;
    worn = worn-now j;
    runs = runs-now j;
    «open» = open-now j;
  }

pub stat_is_machines : (w : WorldView) (m : Machine) → Tracks w m → stat_of w ≡ machine_stat m
stat_is_machines w m t = stat-now w t.0 t.2 ∙ ap machine_stat t.1
