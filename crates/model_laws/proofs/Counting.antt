-- The lists of unlinked elements, counted.
use Rattle.bpf_model.proofs.Prelude.{◌≡◌, ℕ, zero, suc, ◌+◌, ◌<◌, ◌≤◌, List, [], ◌∷◌, ◌++◌, length, map, drop, cond, Option, Some, None, inl, inr, refl, sym}
use Rattle.bpf_model.proofs.Prelude.{ap, ◌∙◌, arith, subst, Bool, true, false, slice_get, slice_set, ◌==◌, ◌&&◌, ◌||◌, if◌then◌else◌, eqb-suc-zero, zero-add}
use Rattle.bpf_model.proofs.Prelude.{eqb-true, eq-eqb, false_from_ne_true, and_parts, false≢true, none-some, same_Some, sum_by-cons, sum_by-append}
use Rattle.bpf_model.proofs.Prelude.{option_cases, none-without, Element, is_linked, is_unlinked, Queues, is_any, still_open, retired_in, unlinked_between}
use Rattle.bpf_model.proofs.Prelude.{retired, or_first, first_ready, without_first, times, get-set_cases}
use Rattle.bpf_model.proofs.Cases.{none-at}

pub times-append : (n : ℕ) (xs ys : List ℕ) → times n (xs ++ ys) ≡ times n xs + times n ys
times-append n xs ys = sum_by-append (λ x. cond (x == n) 1 0) xs ys

times-cons : (n x : ℕ) (xs : List ℕ) → times n (x ∷ xs) ≡ cond {A = ℕ} (x == n) 1 0 + times n xs
times-cons n x xs = sum_by-cons (λ y. cond (y == n) 1 0) x xs

pub times-first : (n x : ℕ) (xs : List ℕ) → x ≡ n → times n (x ∷ xs) ≡ 1 + times n xs
times-first n x xs e = times-cons n x xs ∙ ap (λ b. cond {A = ℕ} b 1 0 + times n xs) (eq-eqb x n e)

pub times-other : (n x : ℕ) (xs : List ℕ) → (x ≡ n → ⊥) → times n (x ∷ xs) ≡ times n xs
times-other n x xs ne = times-cons n x xs ∙ (ap (λ b. cond {A = ℕ} b 1 0 + times n xs)
    (false_from_ne_true (x == n) (λ t. ne (eqb-true x n t))) ∙ zero-add (times n xs))

-- whether an element of a map is unlinked in a step
abbrev pub newly : ℕ → Option Element → Option Element → ℕ
newly map (Some old) (Some new) = if is_linked old.life && is_unlinked new.life && (old.map == map) then 1 else 0
newly map (Some old) None = 0
newly map None new = 0

newly-none : (map : ℕ) (o : Option Element) → newly map o None ≡ 0
newly-none map None = refl
newly-none map (Some e) = refl

choice-other : (c : Bool) (b x : ℕ) (rest : List ℕ) → (b ≡ x → ⊥) → times x (if c then b ∷ rest else rest) ≡ times x rest
choice-other true b x rest ne = times-other x b rest ne
choice-other false b x rest ne = refl

choice-same : (c : Bool) (b x : ℕ) (rest : List ℕ) → b ≡ x → times x rest ≡ 0 → times x (if c then b ∷ rest else rest) ≡ (if c then 1 else 0)
choice-same true b x rest e h = times-first x b rest e ∙ ap (λ k. 1 + k) h
choice-same false b x rest e h = h

between-below : (map b : ℕ) (olds news : List Element) (x : ℕ) → x < b → times x (unlinked_between map b olds news) ≡ 0
between-below map b [] news x h = refl
between-below map b (o ∷ olds) [] x h = refl
between-below map b (o ∷ olds) (w ∷ news) x h =
    choice-other (is_linked o.life && is_unlinked w.life && (o.map == map)) b x
    (unlinked_between map (suc b) olds news) (λ e. absurd (omega arith)) ∙
    between-below map (suc b) olds news x (omega arith)

between-at : (map b : ℕ) (olds news : List Element) (j x : ℕ) → x ≡ b + j →
    times x (unlinked_between map b olds news) ≡ newly map (slice_get olds j) (slice_get news j)
between-at map b [] news j x e = refl
between-at map b (o ∷ olds) [] j x e = sym (newly-none map (slice_get (o ∷ olds) j))
between-at map b (o ∷ olds) (w ∷ news) zero x e =
    choice-same (is_linked o.life && is_unlinked w.life && (o.map == map)) b x
    (unlinked_between map (suc b) olds news) (omega arith) (between-below map (suc b) olds news x (omega arith))
between-at map b (o ∷ olds) (w ∷ news) (suc j) x e =
    choice-other (is_linked o.life && is_unlinked w.life && (o.map == map)) b x
    (unlinked_between map (suc b) olds news) (λ f. absurd (omega arith)) ∙
    between-at map (suc b) olds news j x (omega arith)

pub between-is : (map : ℕ) (olds news : List Element) (x : ℕ) → times x (unlinked_between map 0 olds news) ≡ newly map (slice_get olds x) (slice_get news x)
between-is map olds news x = between-at map 0 olds news x x (omega arith)

retired-at : (old new : List Element) (qs : List Queues) (k j i : ℕ) (q' : Queues) → i ≡ k + j →
    slice_get (retired k old new qs) j ≡ Some q' → (q : Queues) × (slice_get qs j ≡ Some q) ×
    (retired_in i old new q ≡ q')
retired-at old new [] k j i q' e h = absurd (none-some q' h)
retired-at old new (q ∷ qs) k zero i q' e h = let s : i ≡ k =
    omega arith in (q, refl, ap (λ z. retired_in z old new q) s ∙ same_Some (retired_in k old new q) q' h)
retired-at old new (q ∷ qs) k (suc j) i q' e h = retired-at old new qs (suc k) j i q' (omega arith) h

pub retired-back : (old new : List Element) (qs : List Queues) (k : ℕ) (q' : Queues) →
    slice_get (retired 0 old new qs) k ≡ Some q' → (q : Queues) × (slice_get qs k ≡ Some q) ×
    (retired_in k old new q ≡ q')
retired-back old new qs k q' h = retired-at old new qs 0 k k q' (omega arith) h

pub length-retired : (old new : List Element) (qs : List Queues) (k : ℕ) → length (retired k old new qs) ≡ length qs
length-retired old new [] k = refl
length-retired old new (q ∷ qs) k = ap suc (length-retired old new qs (suc k))

pub map-back : {A B : Type 0} (f : A → B) (xs : List A) (k : ℕ) (y : B) → slice_get (map f xs) k ≡ Some y → (x : A) × (slice_get xs k ≡ Some x) × (f x ≡ y)
map-back f [] k y h = absurd (none-some y h)
map-back f (x ∷ xs) zero y h = (x, refl, same_Some (f x) y h)
map-back f (x ∷ xs) (suc k) y h = map-back f xs k y h

-- a flag stays awaited where it was and the run is still inside
pub still-forth : (a b : List Bool) (r : ℕ) → slice_get a r ≡ Some true → slice_get b r ≡ Some true → slice_get (still_open a b) r ≡ Some true
still-forth [] b r h g = absurd (none-some true h)
still-forth (x ∷ a) [] r h g = absurd (none-some true g)
still-forth (x ∷ a) (y ∷ b) zero h g = ap (λ z. Some (z && y)) (same_Some x true h) ∙ g
still-forth (x ∷ a) (y ∷ b) (suc r) h g = still-forth a b r h g

pub still-back : (a b : List Bool) (r : ℕ) → slice_get (still_open a b) r ≡ Some true → slice_get b r ≡ Some true
still-back [] b r h = absurd (none-some true h)
still-back (x ∷ a) [] r h = absurd (none-some true h)
still-back (x ∷ a) (y ∷ b) zero h = ap Some (and_parts x y (same_Some (x && y) true h)).1
still-back (x ∷ a) (y ∷ b) (suc r) h = still-back a b r h

any-or : (b : Bool) (flags : List Bool) → (b || is_any flags) ≡ true →
    (is_any flags ≡ true → (r : ℕ) × (slice_get flags r ≡ Some true)) → (r : ℕ) ×
    (slice_get (b ∷ flags) r ≡ Some true)
any-or true flags h k = (0, refl)
any-or false flags h k = let r = k h in (suc r.0, r.1)

pub any-flag : (flags : List Bool) → is_any flags ≡ true → (r : ℕ) × (slice_get flags r ≡ Some true)
any-flag [] h = absurd (false≢true h)
any-flag (b ∷ flags) h = any-or b flags h (λ g. any-flag flags g)

pub flag-any : (flags : List Bool) (r : ℕ) → slice_get flags r ≡ Some true → is_any flags ≡ true
flag-any [] r h = absurd (none-some true h)
flag-any (true ∷ flags) r h = refl
flag-any (false ∷ flags) zero h = absurd (false≢true (same_Some false true h))
flag-any (false ∷ flags) (suc r) h = flag-any flags r h

-- the first ready element
abbrev pub shortened : List ℕ → Queues → Queues
shortened rest q = record { next = q.next; waiting = q.waiting; ready = rest }

pub record FirstIndex (qs : List Queues) (n : ℕ) : Type 0 where
  pub map_at : ℕ
  pub lists : Queues
  pub rest : List ℕ
  pub there : slice_get qs map_at ≡ Some lists
  pub ready_is : lists.ready ≡ n ∷ rest
  pub without : without_first qs ≡ slice_set qs map_at (shortened rest lists)

abbrev pub without_at : Queues → List Queues → List ℕ → List Queues
without_at q qs ready = if length ready == 0 then q ∷ without_first qs else record { next = q.next; waiting = q.waiting; ready = drop 1 ready } ∷ qs

-- The first ready birth stands behind lists that have none, or in the first lists.
abbrev pub index-later : (q : Queues) (qs : List Queues) (n : ℕ) → q.ready ≡ [] → FirstIndex qs n → FirstIndex (q ∷ qs) n
index-later q qs n e p =
    record {
      map_at = suc p.map_at;
      lists = p.lists;
      rest = p.rest;
      there = p.there;
      ready_is = p.ready_is;
      without =
          ap (without_at q qs) e ∙ ap (λ l. q ∷ l) p.without;
    }

abbrev pub index-here : (q : Queues) (qs : List Queues) (n : ℕ) (rest : List ℕ) → q.ready ≡ n ∷ rest → FirstIndex (q ∷ qs) n
index-here q qs n rest e =
    record {
      map_at = 0;
      lists = q;
      rest = rest;
      there = refl;
      ready_is = e;
      without = ap (without_at q qs) e ∙
          ap (λ b. if b then q ∷ without_first qs else shortened rest q ∷ qs) (eqb-suc-zero (length rest));
    }

first-index_at : (ready : List ℕ) (q : Queues) (qs : List Queues) (n : ℕ) → q.ready ≡ ready →
    or_first ready (first_ready qs) ≡ Some n → (first_ready qs ≡ Some n → FirstIndex qs n) → FirstIndex (q ∷ qs) n
first-index_at [] q qs n e h more = index-later q qs n e (more h)
first-index_at (m ∷ ms) q qs n e h more = index-here q qs n ms (e ∙ ap (λ z. z ∷ ms) (same_Some m n h))

pub first-index : (qs : List Queues) (n : ℕ) → first_ready qs ≡ Some n → FirstIndex qs n
first-index [] n h = absurd (none-some n h)
first-index (q ∷ qs) n h = first-index_at q.ready q qs n refl h (λ g. first-index qs n g)

pub none-ready : (qs : List Queues) → first_ready qs ≡ None → (k : ℕ) (q : Queues) → slice_get qs k ≡ Some q → q.ready ≡ []
none-ready [] h k q at = absurd (none-some q at)
none-ready (x ∷ qs) h zero q at = ap (λ z. z.ready) (sym (same_Some x q at)) ∙ (none-at x.ready (first_ready qs) h).0
none-ready (x ∷ qs) h (suc k) q at = none-ready qs (none-at x.ready (first_ready qs) h).1 k q at

-- lists that a reap leaves
pub record Shrinks (q new : Queues) : Type 0 where
  pub next : new.next ≡ q.next
  pub waiting : new.waiting ≡ q.waiting
  pub ready : (n : ℕ) → times n new.ready ≤ times n q.ready

shrinks-same : (q new : Queues) → q ≡ new → Shrinks q new
shrinks-same q new e = subst (Shrinks q) e (record { next = refl; waiting = refl; ready = λ n. omega arith })

pub times-rest : (n x : ℕ) (xs : List ℕ) → times n xs ≤ times n (x ∷ xs)
times-rest n x xs = let e = times-cons n x xs in omega arith

shrinks-shortened : (q : Queues) (n : ℕ) (rest : List ℕ) → q.ready ≡ n ∷ rest → Shrinks q (shortened rest q)
shrinks-shortened q n rest e = record { next = refl; waiting = refl; ready = λ x. subst (λ l. times x rest ≤ times x l) (sym e) (times-rest x n rest) }

pub without-back : (qs : List Queues) (k : ℕ) (new : Queues) → slice_get (without_first qs) k ≡ Some new →
    (q : Queues) × (slice_get qs k ≡ Some q) × Shrinks q new
without-back qs k new h = elim (option_cases (first_ready qs)) [
  | inl none ↦ (new, ap (λ l. slice_get l k) (sym (none-without qs none)) ∙ h, shrinks-same new new refl)
  | inr some ↦
      let p = first-index qs some.0 some.1 in
      elim (get-set_cases qs p.map_at k (shortened p.rest p.lists) new (ap (λ l. slice_get l k) (sym p.without) ∙ h)) [
        | inl x ↦ (p.lists, ap (slice_get qs) x.0 ∙ p.there, subst (Shrinks p.lists) x.1 (shrinks-shortened p.lists some.0 p.rest p.ready_is))
        | inr x ↦ (new, x.1, shrinks-same new new refl)
      ]
]

length-without_at : (b : Bool) (q x : Queues) (qs more : List Queues) → length more ≡ length qs → length (if b then q ∷ more else x ∷ qs) ≡ suc (length qs)
length-without_at true q x qs more h = ap suc h
length-without_at false q x qs more h = refl

pub length-without : (qs : List Queues) → length (without_first qs) ≡ length qs
length-without [] = refl
length-without (q ∷ qs) = length-without_at (length q.ready == 0) q (shortened (drop 1 q.ready) q) qs (without_first qs) (length-without qs)
