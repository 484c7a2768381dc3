-- Lists that are read, written, grown or cut at an index.
use Rattle.std.proofs.Common.{◌≡◌, ◌≢◌, ℕ, zero, suc, ◌<◌, List, [], ◌∷◌, ◌++◌, length, Some, ◌⊎◌, inl, inr, refl, sym, ◌∙◌, ap, arith, map, ◌+◌}
use Rattle.std.proofs.lemmas.Option.{none-some, same_Some, slice_get_within}
use Rattle.std.proofs.lemmas.Slice.Zip.{AllZip-map}
use Rattle.std.specs.List.{AllZip}
use Rattle.std.specs.Prelude.{slice_get, slice_set, drop, take, replicate}
use Rattle.std.proofs.lemmas.Bool.{cases_eq}
use Rattle.std.proofs.lemmas.List.{map-append, map-id}

-- a list with an item is not empty
pub cons-nil : {A : Type 0} (x : A) (xs : List A) → (x ∷ xs) ≡ [] → ⊥
cons-nil x xs e = cc

pub heads : {A : Type 0} (x y : A) (xs ys : List A) → x ∷ xs ≡ y ∷ ys → x ≡ y
heads x y xs ys e = cc

pub tails : {A : Type 0} (x y : A) (xs ys : List A) → x ∷ xs ≡ y ∷ ys → xs ≡ ys
tails x y xs ys e = cc

pub get-below : {A : Type 0} (xs : List A) (i : ℕ) → i < length xs → (x : A) × (slice_get xs i ≡ Some x)
get-below [] i h = absurd (omega arith)
get-below (x ∷ xs) zero h = (x, refl)
get-below (x ∷ xs) (suc i) h = get-below xs i (omega arith)

pub get-map : {A B : Type 0} (f : A → B) (xs : List A) (i : ℕ) (x : A) → slice_get xs i ≡ Some x → slice_get (map f xs) i ≡ Some (f x)
get-map f [] i x h = absurd (none-some x h)
get-map f (y ∷ xs) zero x h = ap (λ z. Some (f z)) (same_Some y x h)
get-map f (y ∷ xs) (suc i) x h = get-map f xs i x h

-- a list of one value has no other
pub get-replicate : {A : Type 0} (n k : ℕ) (x y : A) → slice_get (replicate n x) k ≡ Some y → y ≡ x
get-replicate zero k x y h = absurd (none-some y h)
get-replicate (suc n) zero x y h = sym (same_Some x y h)
get-replicate (suc n) (suc k) x y h = get-replicate n k x y h

pub get-append : {A : Type 0} (xs ys : List A) (i : ℕ) (x : A) → slice_get xs i ≡ Some x → slice_get (xs ++ ys) i ≡ Some x
get-append [] ys i x h = absurd (none-some x h)
get-append (y ∷ xs) ys zero x h = h
get-append (y ∷ xs) ys (suc i) x h = get-append xs ys i x h

pub get-append_last : {A : Type 0} (xs : List A) (y : A) → slice_get (xs ++ y ∷ []) (length xs) ≡ Some y
get-append_last [] y = refl
get-append_last (x ∷ xs) y = get-append_last xs y

pub get-append_cases : {A : Type 0} (xs : List A) (y : A) (i : ℕ) (z : A) → slice_get (xs ++ y ∷ []) i ≡ Some z →
    (slice_get xs i ≡ Some z) ⊎ ((i ≡ length xs) × (y ≡ z))
get-append_cases [] y zero z h = inr (refl, same_Some _ _ h)
get-append_cases [] y (suc i) z h = inl h
get-append_cases (x ∷ xs) y zero z h = inl h
get-append_cases (x ∷ xs) y (suc i) z h = elim (get-append_cases xs y i z h) [ inl p ↦ inl p | inr p ↦ inr (ap suc p.0, p.1) ]

pub get-set_same : {A : Type 0} (xs : List A) (i : ℕ) (y : A) → i < length xs → slice_get (slice_set xs i y) i ≡ Some y
get-set_same [] i y h = absurd (omega arith)
get-set_same (z ∷ xs) zero y h = refl
get-set_same (z ∷ xs) (suc i) y h = get-set_same xs i y (omega arith)

-- an item that is written over one that stands there
pub get-set_there : {A : Type 0} (xs : List A) (i : ℕ) (x y : A) → slice_get xs i ≡ Some x → slice_get (slice_set xs i y) i ≡ Some y
get-set_there xs i x y h = get-set_same xs i y (slice_get_within xs i x h)

pub get-set_other : {A : Type 0} (xs : List A) (i j : ℕ) (y : A) → j ≢ i → slice_get (slice_set xs i y) j ≡ slice_get xs j
get-set_other [] i j y h = refl
get-set_other (z ∷ xs) zero zero y h = absurd (h refl)
get-set_other (z ∷ xs) zero (suc j) y h = refl
get-set_other (z ∷ xs) (suc i) zero y h = refl
get-set_other (z ∷ xs) (suc i) (suc j) y h = get-set_other xs i j y (λ e. h (ap suc e))

pub get-set_cases : {A : Type 0} (xs : List A) (i j : ℕ) (y z : A) → slice_get (slice_set xs i y) j ≡ Some z →
    ((j ≡ i) × (y ≡ z)) ⊎ ((j ≢ i) × (slice_get xs j ≡ Some z))
get-set_cases [] i j y z h = absurd (none-some z h)
get-set_cases (x ∷ xs) zero zero y z h = inl (refl, same_Some _ _ h)
get-set_cases (x ∷ xs) zero (suc j) y z h = inr (λ e. absurd (omega arith), h)
get-set_cases (x ∷ xs) (suc i) zero y z h = inr (λ e. absurd (omega arith), h)
get-set_cases (x ∷ xs) (suc i) (suc j) y z h = elim (get-set_cases xs i j y z h) [ inl p ↦ inl (ap suc p.0, p.1) | inr p ↦ inr (λ e. p.0 (omega arith), p.1) ]

-- a list with one item set to what it was
pub set-same : {A : Type 0} (xs : List A) (i : ℕ) (y : A) → slice_get xs i ≡ Some y → slice_set xs i y ≡ xs
set-same [] i y h = refl
set-same (z ∷ xs) zero y h = ap (λ w. w ∷ xs) (sym (same_Some _ _ h))
set-same (z ∷ xs) (suc i) y h = ap (λ l. z ∷ l) (set-same xs i y h)

pub drop-next : {A : Type 0} (xs : List A) (i : ℕ) (x : A) → slice_get xs i ≡ Some x → drop i xs ≡ x ∷ drop (suc i) xs
drop-next [] i x h = absurd (none-some x h)
drop-next (y ∷ xs) zero x h = ap (λ z. z ∷ xs) (same_Some y x h)
drop-next (y ∷ xs) (suc i) x h = drop-next xs i x h

pub take-next : {A : Type 0} (xs : List A) (i : ℕ) (x : A) → slice_get xs i ≡ Some x → take (suc i) xs ≡ take i xs ++ x ∷ []
take-next [] i x h = absurd (none-some x h)
take-next (y ∷ xs) zero x h = ap (λ z. z ∷ []) (same_Some y x h)
take-next (y ∷ xs) (suc i) x h = ap (λ l. y ∷ l) (take-next xs i x h)

-- two mapped lists stay equal with one more item
pub map-next : {A B C : Type 0} (f : A → C) (g : B → C) (front : List A) (bs : List B) (a : A) (b : B) →
    map f front ≡ map g bs → f a ≡ g b → map f (front ++ a ∷ []) ≡ map g (bs ++ b ∷ [])
map-next f g front bs a b e same = map-append f front (a ∷ []) ∙
    (ap (λ l. l ++ f a ∷ []) e ∙ (ap (λ c. map g bs ++ c ∷ []) same ∙ sym (map-append g bs (b ∷ []))))

pub map-take : {A B C : Type 0} (f : A → C) (g : B → C) (front : List A) (xs : List B) (n : ℕ) (a : A) (b : B) →
    map f front ≡ map g (take n xs) → slice_get xs n ≡ Some b → f a ≡ g b →
    map f (front ++ a ∷ []) ≡ map g (take (n + 1) xs)
map-take f g front xs n a b e at same =
    let next : suc n ≡ n + 1 = omega arith in
    map-next f g front (take n xs) a b e same ∙ (ap (map g) (sym (take-next xs n b at)) ∙ ap (λ k. map g (take k xs)) next)

-- A list of clones is the list.
pub cloned : (xs ys : List ℕ) → AllZip (λ x y. y ≡ x) xs ys → ys ≡ xs
cloned xs ys h = AllZip-map (λ x. x) xs ys h ∙ map-id xs

-- two keys are one, or differ
pub key_cases : (xs ys : List ℕ) → (xs ≡ ys) ⊎ (xs ≢ ys)
key_cases [] [] = inl refl
key_cases [] (y ∷ ys) = inr (λ e. cc)
key_cases (x ∷ xs) [] = inr (λ e. cc)
key_cases (x ∷ xs) (y ∷ ys) = elim (cases_eq x y) [
  | inl e ↦ elim (key_cases xs ys) [
    | inl f ↦ inl (cc)
    | inr n ↦ inr (λ h. n (cc))
  ]
  | inr n ↦ inr (λ h. n (cc))
]
