-- The lists of unlinked elements, changed map by map.
use Rattle.bpf_model.proofs.Prelude.{◌≡◌, ℕ, zero, suc, ◌+◌, ◌<◌, ◌≤◌, List, [], ◌∷◌, ◌++◌, Option, Some, None, Bool, refl, sym, ap, ◌∙◌, arith, length, true}
use Rattle.bpf_model.proofs.Prelude.{false, map, slice_get, slice_set, drop, take, is_some, ◌&&◌, ◌==◌, if◌then◌else◌, append-nil, drop_all, map-set, eq-eqb}
use Rattle.bpf_model.proofs.Prelude.{ne_eqb, Element, is_linked, is_unlinked, Queues, turned, retired, retired_in, unlinked_between, first_ready, or_first}
use Rattle.bpf_model.proofs.Prelude.{without_first, get-map}
use Rattle.std.proofs.lemmas.List.{append_assoc}
use Rattle.bpf_model.specs.Schedule as schedule
use Rattle.reference_store.specs.State.{queues_of}
use Rattle.reference_store.specs.declared.queues.Queues as plain
use Rattle.reference_store.proofs.Lists.{drop-at}

-- A list of which the first so many items have been changed, each by its index.
abbrev pub mixed : {A : Type 0} → (ℕ → A → A) → ℕ → ℕ → List A → List A
mixed f zero i qs = qs
mixed f (suc k) i [] = []
mixed f (suc k) i (q ∷ qs) = f i q ∷ mixed f k (suc i) qs

pub mixed-get : {A : Type 0} (f : ℕ → A → A) (k i : ℕ) (qs : List A) → slice_get (mixed f k i qs) k ≡ slice_get qs k
mixed-get f zero i qs = refl
mixed-get f (suc k) i [] = refl
mixed-get f (suc k) i (q ∷ qs) = mixed-get f k (suc i) qs

mixed-next : {A : Type 0} (f : ℕ → A → A) (k i : ℕ) (qs : List A) (x : A) → slice_get qs k ≡ Some x →
    slice_set (mixed f k i qs) k (f (k + i) x) ≡ mixed f (suc k) i qs
mixed-next f k i [] x h = absurd cc
mixed-next f zero i (q ∷ qs) x h =
    let e : q ≡ x = cc in
    let z : 0 + i ≡ i = omega arith in
    ap (λ n. f n x ∷ qs) z ∙ ap (λ y. f i y ∷ qs) (sym e)
mixed-next f (suc k) i (q ∷ qs) x h =
    let z : suc k + i ≡ k + suc i = omega arith in
    ap (λ l. f i q ∷ l) (ap (λ n. slice_set (mixed f k (suc i) qs) k (f n x)) z ∙ mixed-next f k (suc i) qs x h)

pub mixed-more : {A : Type 0} (f : ℕ → A → A) (k : ℕ) (qs : List A) (x : A) → slice_get qs k ≡ Some x →
    slice_set (mixed f k 0 qs) k (f k x) ≡ mixed f (k + 1) 0 qs
mixed-more f k qs x h =
    let z : k ≡ k + 0 = omega arith in
    let next : suc k ≡ k + 1 = omega arith in
    ap (λ n. slice_set (mixed f k 0 qs) k (f n x)) z ∙ mixed-next f k 0 qs x h ∙ ap (λ n. mixed f n 0 qs) next

pub all-turned : (qs : List Queues) (k i : ℕ) → length qs ≤ k → mixed (λ _ q. turned q) k i qs ≡ map turned qs
all-turned [] zero i h = refl
all-turned [] (suc k) i h = refl
all-turned (q ∷ qs) zero i h = absurd (omega arith)
all-turned (q ∷ qs) (suc k) i h = ap (λ l. turned q ∷ l) (all-turned qs k (suc i) (omega arith))

pub all-retired : (olds news : List Element) (qs : List Queues) (k i : ℕ) → length qs ≤ k → mixed (λ j. retired_in j olds news) k i qs ≡ retired i olds news qs
all-retired olds news [] zero i h = refl
all-retired olds news [] (suc k) i h = refl
all-retired olds news (q ∷ qs) zero i h = absurd (omega arith)
all-retired olds news (q ∷ qs) (suc k) i h = ap (λ l. retired_in i olds news q ∷ l) (all-retired olds news qs k (suc i) (omega arith))

-- one more element that was unlinked, or wasn't
pub if-retired : (done rest : List ℕ) (n : ℕ) (b : Bool) → done ++ (if b then n ∷ rest else rest) ≡ (done ++ (if b then n ∷ [] else [])) ++ rest
if-retired done rest n true = sym (append_assoc done (n ∷ []) rest)
if-retired done rest n false = ap (λ l. l ++ rest) (sym (append-nil done))

pub unlinked-more : (olds news : List Element) (k n : ℕ) (done : List ℕ) (o e : Element) → slice_get olds n ≡ Some o → slice_get news n ≡ Some e →
    done ++ unlinked_between k n (drop n olds) (drop n news) ≡
    (done ++ (if is_linked o.life && is_unlinked e.life && (o.map == k) then n ∷ [] else [])) ++ unlinked_between
    k (n + 1) (drop (n + 1) olds) (drop (n + 1) news)
unlinked-more olds news k n done o e h g =
    let next : suc n ≡ n + 1 = omega arith in
    ap (λ l. done ++ unlinked_between k n l (drop n news)) (drop-at olds n o h) ∙
    ap (λ l. done ++ unlinked_between k n (o ∷ drop (n + 1) olds) l) (drop-at news n e g)
    ∙ if-retired done (unlinked_between k (suc n) (drop (n + 1) olds) (drop (n + 1) news)) n (is_linked o.life && is_unlinked e.life && (o.map == k))
    ∙ ap (λ i. (done ++ (if is_linked o.life && is_unlinked e.life && (o.map == k) then n ∷ [] else [])) ++
    unlinked_between k i (drop (n + 1) olds) (drop (n + 1) news)) next

no-news : (k n : ℕ) (olds : List Element) → unlinked_between k n olds [] ≡ []
no-news k n [] = refl
no-news k n (o ∷ olds) = refl

pub unlinked-first : (olds news : List Element) (k n : ℕ) (done : List ℕ) → length olds ≤ n → done ++ unlinked_between k n (drop n olds) (drop n news) ≡ done
unlinked-first olds news k n done h = ap (λ l. done ++ unlinked_between k n l (drop n news)) (drop_all n olds h) ∙ append-nil done

pub unlinked-second : (olds news : List Element) (k n : ℕ) (done : List ℕ) → length news ≤ n → done ++ unlinked_between k n (drop n olds) (drop n news) ≡ done
unlinked-second olds news k n done h = ap (λ l. done ++ unlinked_between k n (drop n olds) l) (drop_all n news h) ∙
    ap (λ l. done ++ l) (no-news k n (drop n olds)) ∙ append-nil done

-- The first ready birth, from list k on.
no-first : (r : List ℕ) → slice_get r 0 ≡ None → length r ≡ 0
no-first [] h = refl
no-first (m ∷ r) h = absurd cc

pub is-first : (r : List ℕ) → is_some (slice_get r 0) ≡ true → 0 < length r
is-first [] h = absurd cc
is-first (m ∷ r) h = omega arith

pub not-first : (r : List ℕ) → is_some (slice_get r 0) ≡ false → slice_get r 0 ≡ None
not-first [] h = refl
not-first (m ∷ r) h = absurd cc

first-here : (r : List ℕ) (later : Option ℕ) (n : ℕ) → slice_get r 0 ≡ Some n → or_first r later ≡ Some n
first-here [] later n h = absurd cc
first-here (m ∷ r) later n h = h

first-later : (r : List ℕ) (later : Option ℕ) → slice_get r 0 ≡ None → or_first r later ≡ later
first-later [] later h = refl
first-later (m ∷ r) later h = absurd cc

pub ready-later : (qs : List Queues) (k : ℕ) (q : Queues) → slice_get qs k ≡ Some q → slice_get q.ready 0 ≡ None →
    first_ready (drop k qs) ≡ first_ready (drop (k + 1) qs)
ready-later qs k q h e = ap first_ready (drop-at qs k q h) ∙ first-later q.ready (first_ready (drop (k + 1) qs)) e

pub ready-here : (qs : List Queues) (k : ℕ) (q : Queues) (n : ℕ) → slice_get qs k ≡ Some q → slice_get q.ready 0 ≡ Some n → first_ready (drop k qs) ≡ Some n
ready-here qs k q n h e = ap first_ready (drop-at qs k q h) ∙ first-here q.ready (first_ready (drop (k + 1) qs)) n e

pub ready-past : (qs : List Queues) (k : ℕ) → length qs ≤ k → first_ready (drop k qs) ≡ None
ready-past qs k h = ap first_ready (drop_all k qs h)

-- the lists without that birth
without-next : (qs : List Queues) (k : ℕ) (q : Queues) → slice_get qs k ≡ Some q → slice_get q.ready 0 ≡ None →
    take k qs ++ without_first (drop k qs) ≡ take (suc k) qs ++ without_first (drop (suc k) qs)
without-next [] k q h e = absurd cc
without-next (x ∷ qs) zero q h e =
    let same : x ≡ q = cc in
    let none : (length x.ready == 0) ≡ true = eq-eqb (length x.ready) 0 (no-first x.ready (ap (λ y. slice_get y.ready 0) same ∙ e)) in
    ap (λ b. if b then x ∷ without_first qs else record { next = x.next; waiting = x.waiting; ready = drop 1 x.ready } ∷ qs) none
without-next (x ∷ qs) (suc k) q h e = ap (λ l. x ∷ l) (without-next qs k q h e)

pub without-later : (qs : List Queues) (k : ℕ) (q : Queues) → slice_get qs k ≡ Some q → slice_get q.ready 0 ≡ None →
    take k qs ++ without_first (drop k qs) ≡ take (k + 1) qs ++ without_first (drop (k + 1) qs)
without-later qs k q h e =
    let next : suc k ≡ k + 1 = omega arith in
    without-next qs k q h e ∙ ap (λ n. take n qs ++ without_first (drop n qs)) next

pub without-here : (qs : List Queues) (k : ℕ) (q : Queues) → slice_get qs k ≡ Some q → 0 < length q.ready →
    take k qs ++ without_first (drop k qs) ≡ slice_set qs k (record { next = q.next; waiting = q.waiting; ready = drop 1 q.ready })
without-here [] k q h e = absurd cc
without-here (x ∷ qs) zero q h e =
    let same : x ≡ q = cc in
    let some : (length x.ready == 0) ≡ false = ne_eqb (length x.ready) 0
    (λ z. let y : length q.ready ≡ 0 = sym (ap (λ y. length y.ready) same) ∙ z in absurd (omega arith)) in
    ap (λ b. if b then x ∷ without_first qs else record { next = x.next; waiting = x.waiting; ready = drop 1 x.ready }
    ∷ qs) some ∙ ap (λ y. record { next = y.next; waiting = y.waiting; ready = drop 1 y.ready } ∷ qs) same
without-here (x ∷ qs) (suc k) q h e = ap (λ l. x ∷ l) (without-here qs k q h e)

pub changed-one : (f : ℕ → schedule.Queues → schedule.Queues) (items xs : List plain.Queues) (k : ℕ)
    (x new : plain.Queues) → map queues_of xs ≡ mixed f k 0 (map queues_of items) → slice_get xs k ≡ Some x →
    queues_of new ≡ f k (queues_of x) →
    map queues_of (slice_set xs k new) ≡ mixed f (k + 1) 0 (map queues_of items)
changed-one f items xs k x new inv there e =
    let qs = map queues_of items in
    let at : slice_get qs k ≡ Some (queues_of x) = sym (mixed-get f k 0 qs) ∙ ap (λ l. slice_get l k) (sym inv) ∙ get-map queues_of xs k x there in
    map-set queues_of xs k new ∙ ap (λ l. slice_set l k (queues_of new)) inv ∙ ap (slice_set (mixed f k 0 qs) k) e ∙ mixed-more f k qs (queues_of x) at
