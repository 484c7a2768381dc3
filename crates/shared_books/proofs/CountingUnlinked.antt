-- The lists of a world count the machine's unlinked elements.
use Rattle.bpf_model.proofs.Prelude.{◌≡◌, ◌≢◌, ◌∙◌, ℕ, zero, suc, ◌+◌, ◌<◌, List, [], ◌∷◌, ◌++◌, length, Bool, true, false, cond, Option, Some, None, refl}
use Rattle.bpf_model.proofs.Prelude.{sym, ap, arith, slice_get, slice_index, ◌==◌, ◌&&◌, not, count_by, sum_by, eq-eqb, length-append, length-map}
use Rattle.bpf_model.proofs.Prelude.{sum_by-cons, slice_get_within, Element, Life, Linked, Unlinked, Reclaimed, is_linked, is_reclaimed, is_unlinked, Machine}
use Rattle.bpf_model.proofs.Prelude.{Tracks, TracksSchedule, RefinesSchedule, lists_of, named, times, Queues, Schedule, MapView, WorldView, get-below}
use Rattle.model_laws.proofs.Prelude.{IsScheduled, queued_in}
use Rattle.std.proofs.Math.Dec.{eqb-suc-suc}
use Rattle.map_kinds.specs.Counting.{unlinked_in}
use Rattle.model_laws.proofs.Counting.{times-append, times-first, times-other}
use Rattle.model_laws.proofs.Queueing.{queued-elsewhere}
use Rattle.model_laws.proofs.Reached.{tracked_is_scheduled}
use Rattle.model_laws.proofs.Tallies.{count-cons, one_of}
use Rattle.shared_books.specs.Totals.{ever_reclaimed, ever_unlinked, reclaimed_total, unlinked_total}

-- 1 where an index has an unlinked element, else 0
abbrev flag : Option Element → ℕ
flag None = 0
flag (Some e) = one_of (is_unlinked e.life)

lowered : List ℕ → List ℕ
lowered [] = []
lowered (zero ∷ xs) = lowered xs
lowered (suc n ∷ xs) = n ∷ lowered xs

length-lowered : (xs : List ℕ) → length xs ≡ times 0 xs + length (lowered xs)
unfolding lowered
length-lowered [] = refl
length-lowered (zero ∷ xs) = let t = times-first 0 0 xs refl in let r = length-lowered xs in omega (arith, t, r)
length-lowered (suc n ∷ xs) = let t = times-other 0 (suc n) xs (λ e. absurd (omega arith)) in let r = length-lowered xs in omega (arith, t, r)

times-lowered : (n : ℕ) (xs : List ℕ) → times n (lowered xs) ≡ times (suc n) xs
unfolding lowered
times-lowered n [] = refl
times-lowered n (zero ∷ xs) = times-lowered n xs ∙ sym (times-other (suc n) 0 xs (λ e. absurd (omega arith)))
times-lowered n (suc m ∷ xs) =
    sum_by-cons (λ y. cond (y == n) 1 0) m (lowered xs)
    ∙ (ap (λ b. one_of b + times n (lowered xs)) (sym (eqb-suc-suc m n))
    ∙ (ap (λ k. one_of (suc m == suc n) + k) (times-lowered n xs)
    ∙ sym (sum_by-cons (λ y. cond (y == suc n) 1 0) (suc m) xs)))

-- A list that has each number as often as the flag of that index says is as long as there are unlinked elements.
count-of : (xs : List ℕ) (es : List Element) → ((n : ℕ) → times n xs ≡ flag (slice_get es n)) → length xs ≡ count_by (λ e. is_unlinked e.life) es
count-of [] [] h = refl
count-of (x ∷ xs) [] h = let t = times-first x x xs refl in let z : times x (x ∷ xs) ≡ 0 = h x in absurd (omega (arith, t, z))
count-of xs (e ∷ es) h =
    let l = length-lowered xs in
    let first : times 0 xs ≡ one_of (is_unlinked e.life) = h 0 in
    let rest = count-of (lowered xs) es (λ n. times-lowered n xs ∙ h (suc n)) in
    let c = count-cons (λ (e : Element). is_unlinked e.life) e es in
    omega (arith, l, first, rest, c)

-- the births in all lists
abbrev births : Queues → List ℕ
births q = (q.next ++ q.waiting) ++ q.ready

all_births : List Queues → List ℕ
all_births [] = []
all_births (q ∷ qs) = births q ++ all_births qs

times-births : (n : ℕ) (q : Queues) → times n (births q) ≡ times n q.next + times n q.waiting + times n q.ready
times-births n q = times-append n (q.next ++ q.waiting) q.ready ∙ ap (λ k. k + times n q.ready) (times-append n q.next q.waiting)

times-none : (n : ℕ) (qs : List Queues) (f : ℕ → ℕ) → ((j : ℕ) (q : Queues) → slice_get qs j ≡ Some q →
    times n (births q) ≡ f j) → ((j : ℕ) → f j ≡ 0) → times n (all_births qs) ≡ 0
unfolding all_births
times-none n [] f h z = refl
times-none n (q ∷ qs) f h z =
    let a = times-append n (births q) (all_births qs) in
    let first : times n (births q) ≡ f 0 = h 0 q refl in
    let zeroth = z 0 in
    let rest = times-none n qs (λ j. f (suc j)) (λ j x at. h (suc j) x at) (λ j. z (suc j)) in
    omega (arith, a, first, zeroth, rest)

times-one : (n : ℕ) (qs : List Queues) (f : ℕ → ℕ) (i c : ℕ) →
    ((j : ℕ) (q : Queues) → slice_get qs j ≡ Some q → times n (births q) ≡ f j) → i < length qs → f i ≡ c →
    ((j : ℕ) → j ≢ i → f j ≡ 0) → times n (all_births qs) ≡ c
unfolding all_births
times-one n [] f i c h l e z = absurd (omega (arith, l))
times-one n (q ∷ qs) f zero c h l e z =
    let a = times-append n (births q) (all_births qs) in
    let first : times n (births q) ≡ f 0 = h 0 q refl in
    let rest = times-none n qs (λ j. f (suc j)) (λ j x at. h (suc j) x at) (λ j. z (suc j) (λ s. absurd (omega arith))) in
    omega (arith, a, first, e, rest)
times-one n (q ∷ qs) f (suc i) c h l e z =
    let a = times-append n (births q) (all_births qs) in
    let first : times n (births q) ≡ f 0 = h 0 q refl in
    let zeroth = z 0 (λ s. absurd (omega arith)) in
    let rest = times-one n qs (λ j. f (suc j)) i c (λ j x at. h (suc j) x at) (omega (arith, l)) e (λ j ne. z (suc j) (λ s. ne (omega arith))) in
    omega (arith, a, first, zeroth, rest)

both : (a b : Bool) → b ≡ true → one_of (a && b) ≡ one_of a
both true b h = ap one_of h
both false b h = refl

births-flag : (s : Schedule) (n : ℕ) (o : Option Element) → IsScheduled s → slice_get s.machine.store.elements n ≡ o → times n (all_births s.queues) ≡ flag o
births-flag s n None sch at =
    times-none n s.queues (λ k. 0) (λ j q there. times-births n q ∙ (sch.queued j n q there ∙ ap (queued_in j) at)) (λ j. refl)
births-flag s n (Some e) sch at =
    let l = sch.consistent.lengths n e at in
    let inside = slice_get_within s.machine.store.maps e.map l.0 l.1 in
    let count : length s.queues ≡ length s.machine.store.maps = sch.queues in
    times-one n s.queues (λ k. queued_in k (Some e)) e.map (one_of (is_unlinked e.life))
    (λ j q there. times-births n q ∙ (sch.queued j n q there ∙ ap (queued_in j) at))
    (omega (arith, inside, count))
    (both (is_unlinked e.life) (e.map == e.map) (eq-eqb e.map e.map refl))
    (λ j ne. queued-elsewhere j (Some e) e refl (λ same. ne (sym same)))

-- the lists of all maps are as long as those of the births
lists-long : (slots : List ℕ) (v : MapView) (q : Queues) → lists_of v ≡ named slots q → unlinked_in v ≡ length (births q)
lists-long slots v q e =
    let a : length v.next ≡ length q.next = ap (λ (x : Queues). length x.next) e ∙ length-map q.next (slice_index slots) in
    let b : length v.waiting ≡ length q.waiting = ap (λ (x : Queues). length x.waiting) e ∙ length-map q.waiting (slice_index slots) in
    let c : length v.ready ≡ length q.ready = ap (λ (x : Queues). length x.ready) e ∙ length-map q.ready (slice_index slots) in
    let d = length-append (q.next ++ q.waiting) q.ready in
    let f = length-append q.next q.waiting in
    omega (arith, a, b, c, d, f)

all-long : (vs : List MapView) (qs : List Queues) → length vs ≡ length qs →
    ((k : ℕ) (v : MapView) (q : Queues) → slice_get vs k ≡ Some v → slice_get qs k ≡ Some q →
    unlinked_in v ≡ length (births q)) → sum_by unlinked_in vs ≡ length (all_births qs)
unfolding all_births
all-long [] [] l h = refl
all-long [] (q ∷ qs) l h = absurd (omega (arith, l))
all-long (v ∷ vs) [] l h = absurd (omega (arith, l))
all-long (v ∷ vs) (q ∷ qs) l h =
    let a = sum_by-cons unlinked_in v vs in
    let first : unlinked_in v ≡ length (births q) = h 0 v q refl refl in
    let rest = all-long vs qs (omega (arith, l)) (λ k x y hx hy. h (suc k) x y hx hy) in
    let b = length-append (births q) (all_births qs) in
    omega (arith, a, first, rest, b)

map-long : (w : WorldView) (s : Schedule) → (r : RefinesSchedule w s) → (k : ℕ) (v : MapView) (q : Queues) →
    slice_get w.maps k ≡ Some v → slice_get s.queues k ≡ Some q → unlinked_in v ≡ length (births q)
map-long w s r k v q hv hq =
    let inside = slice_get_within w.maps k v hv in
    let count : length w.maps ≡ length s.machine.store.maps = r.maps.0 in
    let m = get-below s.machine.store.maps k (omega (arith, inside, count)) in
    lists-long r.slots v q (r.map k v m.0 q hv m.1 hq).lists

kinds : (l : Life) → one_of (not (is_linked l)) ≡ one_of (is_reclaimed l) + one_of (is_unlinked l)
kinds Linked = refl
kinds (Unlinked opened) = refl
kinds Reclaimed = refl

count-kinds : (es : List Element) → count_by (λ e. not (is_linked e.life)) es ≡ count_by (λ e. is_reclaimed e.life) es + count_by (λ e. is_unlinked e.life) es
count-kinds [] = refl
count-kinds (e ∷ es) =
    let a = count-cons (λ (e : Element). not (is_linked e.life)) e es in
    let b = count-cons (λ (e : Element). is_reclaimed e.life) e es in
    let c = count-cons (λ (e : Element). is_unlinked e.life) e es in
    let k = kinds e.life in
    let rest = count-kinds es in
    omega (arith, a, b, c, k, rest)

pub unlinked-now : (w : WorldView) (s : Schedule) → TracksSchedule w s → sum_by unlinked_in w.maps ≡ count_by (λ e. is_unlinked e.life) s.machine.store.elements
unlinked-now w s t =
    let es = s.machine.store.elements in
    let sch = tracked_is_scheduled w s t in
    let a = t.refines.maps.0 in
    let b = t.refines.maps.1 in
    let lists : sum_by unlinked_in w.maps ≡ length (all_births s.queues) = all-long w.maps s.queues (omega (arith, a, b)) (map-long w s t.refines) in
    let counted : length (all_births s.queues) ≡ count_by (λ e. is_unlinked e.life) es =
    count-of (all_births s.queues) es (λ n. births-flag s n (slice_get es n) sch refl) in
    lists ∙ counted

schedule-unlinked : (w : WorldView) (s : Schedule) → TracksSchedule w s → unlinked_total w ≡ ever_unlinked s.machine
schedule-unlinked w s t =
    let es = s.machine.store.elements in
    let now = unlinked-now w s t in
    let given : w.given ≡ count_by (λ e. is_reclaimed e.life) es = t.refines.given in
    let whole = count-kinds es in
    omega (arith, now, given, whole)

pub unlinked_is_machines : (w : WorldView) (m : Machine) → Tracks w m → unlinked_total w ≡ ever_unlinked m
unlinked_is_machines w m t = schedule-unlinked w t.0 t.2 ∙ ap ever_unlinked t.1

pub reclaimed_is_machines : (w : WorldView) (m : Machine) → Tracks w m → reclaimed_total w ≡ ever_reclaimed m
reclaimed_is_machines w m t = t.2.refines.given ∙ ap ever_reclaimed t.1
