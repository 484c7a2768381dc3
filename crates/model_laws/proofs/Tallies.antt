-- How many elements of a map are linked, unlinked or kept, as the elements change.
use Rattle.bpf_model.proofs.Prelude.{◌≡◌, ℕ, zero, suc, ◌+◌, ◌*◌, ◌≤◌, List, [], ◌∷◌, ◌++◌, length, cond, Some, refl, sym, ap, ◌∙◌, arith, Bool, true, false}
use Rattle.bpf_model.proofs.Prelude.{slice_get, slice_set, ◌==◌, ◌&&◌, not, count_by, sum_by, add-mul, eq-eqb, eqb-true, false_from_ne_true, false≢true}
use Rattle.bpf_model.proofs.Prelude.{and_right, none-some, same_Some, sum_by-cons, sum_by_push, Section, Element, Life, Linked, Unlinked, Reclaimed}
use Rattle.bpf_model.proofs.Prelude.{is_linked, is_reclaimed, linked_count, with_life, is_unlinked}
use Rattle.model_laws.proofs.Prelude.{kept_count, born_count}
use Rattle.model_laws.specs.Accounted.{unlinked_count}
use Rattle.model_laws.proofs.Stores.{LifeMoves, Stays, Unlinks, Ends, Alters, Touches}

-- counts of lists
abbrev pub one_of : Bool → ℕ
one_of b = cond {A = ℕ} b 1 0

pub count-cons : {A : Type 0} (p : A → Bool) (x : A) (xs : List A) → count_by p (x ∷ xs) ≡ one_of (p x) + count_by p xs
count-cons p x xs = sum_by-cons (λ y. cond (p y) 1 0) x xs

sum-same : {A : Type 0} (f : A → ℕ) (xs ys : List A) → length ys ≡ length xs →
    ((n : ℕ) (x : A) → slice_get xs n ≡ Some x → (y : A) × (slice_get ys n ≡ Some y) × (f y ≡ f x)) →
    sum_by f ys ≡ sum_by f xs
sum-same f [] [] l h = refl
sum-same f [] (y ∷ ys) l h = absurd (omega arith)
sum-same f (x ∷ xs) [] l h = absurd (omega arith)
sum-same f (x ∷ xs) (y ∷ ys) l h =
    let g = h 0 x refl in
    let e : f y ≡ f x = ap f (same_Some y g.0 g.1) ∙ g.2 in
    let rest : sum_by f ys ≡ sum_by f xs = sum-same f xs ys (omega arith) (λ n z at. h (suc n) z at) in
    sum_by-cons f y ys ∙ (ap (λ b. b + sum_by f ys) e ∙ (ap (λ k. f x + k) rest ∙ sym (sum_by-cons f x xs)))

pub sum-set : {A : Type 0} (f : A → ℕ) (xs : List A) (n : ℕ) (x y : A) → slice_get xs n ≡ Some x → sum_by f (slice_set xs n y) + f x ≡ sum_by f xs + f y
sum-set f [] n x y h = absurd (none-some x h)
sum-set f (z ∷ xs) zero x y h =
    let a = sum_by-cons f y xs in
    let b = sum_by-cons f z xs in
    let c : f z ≡ f x = ap f (same_Some z x h) in
    omega arith
sum-set f (z ∷ xs) (suc n) x y h =
    let a = sum_by-cons f z (slice_set xs n y) in
    let b = sum_by-cons f z xs in
    let c = sum-set f xs n x y h in
    omega arith

count-same : {A : Type 0} (p : A → Bool) (xs ys : List A) → length ys ≡ length xs →
    ((n : ℕ) (x : A) → slice_get xs n ≡ Some x → (y : A) × (slice_get ys n ≡ Some y) × (p y ≡ p x)) →
    count_by p ys ≡ count_by p xs
count-same p xs ys l h = sum-same (λ x. one_of (p x)) xs ys l (λ n x at. let g = h n x at in (g.0, g.1, ap one_of g.2))

pub count-set : {A : Type 0} (p : A → Bool) (xs : List A) (n : ℕ) (x y : A) → slice_get xs n ≡ Some x →
    count_by p (slice_set xs n y) + one_of (p x) ≡ count_by p xs + one_of (p y)
count-set p xs n x y h = sum-set (λ x. one_of (p x)) xs n x y h

-- elements that are kept
abbrev pub is_kept : ℕ → Element → Bool
is_kept k e = not (is_reclaimed e.life) && (e.map == k)

abbrev pub of_map : ℕ → ℕ → ℕ
of_map map k = one_of (map == k)

pub of-same : (k : ℕ) → of_map k k ≡ 1
of-same k = ap one_of (eq-eqb k k refl)

pub of-other : (map k : ℕ) → (map ≡ k → ⊥) → of_map map k ≡ 0
of-other map k ne = ap one_of (false_from_ne_true (map == k) (λ t. ne (eqb-true map k t)))

reclaimed-same : (opened : List Section) (old new : Life) → LifeMoves false opened old new → is_reclaimed new ≡ is_reclaimed old
reclaimed-same opened old new (Stays e) = ap is_reclaimed e
reclaimed-same opened old new (Unlinks l e) = ap is_reclaimed e ∙ sym (ap is_reclaimed l)
reclaimed-same opened old new (Ends since r l ended e) = absurd (false≢true r)

kept-altered : (opened : List Section) (k : ℕ) (e f : Element) → Alters false opened e f → is_kept k f ≡ is_kept k e
kept-altered opened k e f a = ap (λ b. not b && (f.map == k)) (reclaimed-same opened e.life f.life a.life) ∙
    ap (λ m. not (is_reclaimed e.life) && (m == k)) a.in_map

pub kept-touched : (opened : List Section) (old new : List Element) → Touches false opened old new → (k : ℕ) → kept_count k new ≡ kept_count k old
kept-touched opened old new t k = count-same (is_kept k) old new t.births (λ n e at. let f = t.forth n e at in (f.0, f.1, kept-altered opened k e f.0 f.2))

kept-life : (e : Element) (k : ℕ) (l : Life) → e.life ≡ l → is_reclaimed l ≡ false → one_of (is_kept k e) ≡ of_map e.map k
kept-life e k l same h = ap (λ x. one_of (not (is_reclaimed x) && (e.map == k))) same ∙ ap (λ b. one_of (not b && (e.map == k))) h

pub kept-born : (es : List Element) (nb : Element) (k : ℕ) → nb.life ≡ Linked → kept_count k (es ++ nb ∷ []) ≡ kept_count k es + of_map nb.map k
kept-born es nb k life = sum_by_push (λ e. cond (is_kept k e) 1 0) es nb ∙ ap (λ n. kept_count k es + n) (kept-life nb k Linked life refl)

pub kept-reclaimed : (es : List Element) (n : ℕ) (e : Element) (since : List Section) (k : ℕ) →
    slice_get es n ≡ Some e → e.life ≡ Unlinked since →
    kept_count k (slice_set es n (with_life Reclaimed e)) + of_map e.map k ≡ kept_count k es
kept-reclaimed es n e since k at life =
    let a = count-set (is_kept k) es n e (with_life Reclaimed e) at in
    let b : one_of (is_kept k e) ≡ of_map e.map k = kept-life e k (Unlinked since) life refl in
    let c : one_of (is_kept k (with_life Reclaimed e)) ≡ 0 = refl in
    omega arith

-- what is kept is linked or unlinked
one-kind : (l : Life) (b : Bool) → one_of (not (is_reclaimed l) && b) ≡ one_of (is_linked l && b) + one_of (is_unlinked l && b)
one-kind Linked true = refl
one-kind Linked false = refl
one-kind (Unlinked since) true = refl
one-kind (Unlinked since) false = refl
one-kind Reclaimed b = refl

pub kept-kinds : (k : ℕ) (es : List Element) → kept_count k es ≡ linked_count k es + unlinked_count k es
kept-kinds k [] = refl
kept-kinds k (e ∷ es) =
    let a = count-cons (is_kept k) e es in
    let b = count-cons (λ (x : Element). is_linked x.life && (x.map == k)) e es in
    let c = count-cons (λ (x : Element). is_unlinked x.life && (x.map == k)) e es in
    let d = one-kind e.life (e.map == k) in
    let rest = kept-kinds k es in
    omega arith

-- how often the map slots of the kept elements were used, and how many elements were born
abbrev pub uses_of : ℕ → Element → ℕ
uses_of k e = cond {A = ℕ} (is_kept k e) e.uses 0

abbrev pub kept_uses : ℕ → List Element → ℕ
kept_uses k es = sum_by (uses_of k) es

pub uses-touched : (opened : List Section) (old new : List Element) → Touches false opened old new → (k : ℕ) → kept_uses k new ≡ kept_uses k old
uses-touched opened old new t k = sum-same (uses_of k) old new t.births (λ n e at.
    let f = t.forth n e at in
    (f.0, f.1, ap (λ b. cond b f.0.uses 0) (kept-altered opened k e f.0 f.2) ∙ ap (λ u. cond (is_kept k e) u 0) f.2.uses))

pub born-touched : (opened : List Section) (old new : List Element) → Touches false opened old new → (k : ℕ) → born_count k new ≡ born_count k old
born-touched opened old new t k = count-same (λ (e : Element). e.map == k) old new t.births
    (λ n e at. let f = t.forth n e at in (f.0, f.1, ap (λ m. m == k) f.2.in_map))

pub kept-was : (opened : List Section) (old new : List Element) (k n : ℕ) (f : Element) → Touches false opened old new
    → slice_get new n ≡ Some f → is_kept k f ≡ true → (e : Element) × (slice_get old n ≡ Some e) ×
    (is_kept k e ≡ true) × (f.uses ≡ e.uses)
kept-was opened old new k n f t at kept =
    let e = t.back n f at in
    let g = t.forth n e.0 e.1 in
    let same : g.0 ≡ f = same_Some g.0 f (sym g.1 ∙ at) in
    (e.0, e.1, sym (kept-altered opened k e.0 g.0 g.2) ∙ (ap (is_kept k) same ∙ kept), ap (λ (x : Element). x.uses) (sym same) ∙ g.2.uses)

not-kept : (k : ℕ) (e : Element) → (e.map ≡ k → ⊥) → is_kept k e ≡ false
not-kept k e ne = and_right (not (is_reclaimed e.life)) (e.map == k) (false_from_ne_true (e.map == k) (λ t. ne (eqb-true e.map k t)))

-- a bit is one at most
pub one-most : (b : Bool) → one_of b ≤ 1
one-most true = omega arith
one-most false = omega arith

pub kept-is : (k : ℕ) (e : Element) (l : Life) → e.life ≡ l → is_reclaimed l ≡ false → e.map ≡ k → is_kept k e ≡ true
kept-is k e l life h in_map = ap (λ x. not (is_reclaimed x) && (e.map == k)) life ∙ (ap (λ b. not b && (e.map == k)) h ∙ eq-eqb e.map k in_map)

pub uses-here : (k : ℕ) (e : Element) (l : Life) → e.life ≡ l → is_reclaimed l ≡ false → e.map ≡ k → uses_of k e ≡ e.uses
uses-here k e l life h in_map = ap (λ b. cond b e.uses 0) (kept-is k e l life h in_map)

pub uses-away : (k : ℕ) (e : Element) → (e.map ≡ k → ⊥) → uses_of k e ≡ 0
uses-away k e ne = ap (λ b. cond b e.uses 0) (not-kept k e ne)

pub uses-born : (es : List Element) (nb : Element) (k : ℕ) → kept_uses k (es ++ nb ∷ []) ≡ kept_uses k es + uses_of k nb
uses-born es nb k = sum_by_push (uses_of k) es nb

pub born-born : (es : List Element) (nb : Element) (k : ℕ) → born_count k (es ++ nb ∷ []) ≡ born_count k es + of_map nb.map k
born-born es nb k = sum_by_push (λ (e : Element). cond (e.map == k) 1 0) es nb

pub uses-reclaimed : (es : List Element) (n : ℕ) (e : Element) (k : ℕ) → slice_get es n ≡ Some e →
    kept_uses k (slice_set es n (with_life Reclaimed e)) + uses_of k e ≡ kept_uses k es
uses-reclaimed es n e k at = let a = sum-set (uses_of k) es n e (with_life Reclaimed e) at in let c : uses_of k
    (with_life Reclaimed e) ≡ 0 = refl in omega arith

pub born-reclaimed : (es : List Element) (n : ℕ) (e : Element) (k : ℕ) → slice_get es n ≡ Some e →
    born_count k (slice_set es n (with_life Reclaimed e)) ≡ born_count k es
born-reclaimed es n e k at = let a = count-set (λ (x : Element). x.map == k) es n e (with_life Reclaimed e) at in omega arith

-- the uses of a map's kept elements, where each was used so often at most
pub uses-most : (k limit : ℕ) (es : List Element) → ((n : ℕ) (e : Element) → slice_get es n ≡ Some e →
    is_kept k e ≡ true → e.uses ≤ limit) → kept_uses k es ≤ kept_count k es * limit
uses-most k limit [] h = omega arith
uses-most k limit (e ∷ es) h =
    let a = sum_by-cons (uses_of k) e es in
    let b = count-cons (is_kept k) e es in
    let rest = uses-most k limit es (λ n f at kept. h (suc n) f at kept) in
    let one : uses_of k e ≤ one_of (is_kept k e) * limit = by (is_kept k e) refl in
    let c : kept_count k (e ∷ es) * limit ≡ one_of (is_kept k e) * limit + kept_count k es * limit =
    ap (λ n. n * limit) b ∙ add-mul (one_of (is_kept k e)) (kept_count k es) limit in
    omega arith
  where
    by : (b : Bool) → is_kept k e ≡ b → cond {A = ℕ} b e.uses 0 ≤ one_of b * limit
    by true is = let x = h 0 e refl is in omega arith
    by false is = omega arith
