-- Facts about lists, of what stands at an index and what is left from an index on.
use Rattle.bpf_model.proofs.Prelude.{◌≡◌, ℕ, zero, suc, ◌+◌, ◌<◌, ◌≤◌, List, [], ◌∷◌, ◌++◌, length, Some, refl, sym, ap, ◌∙◌, subst, arith, map, slice_get}
use Rattle.bpf_model.proofs.Prelude.{slice_index_or, drop, take, append-nil, drop_all, drop-next, take-next}
use Rattle.std.specs.Prelude.{remove}
use Rattle.std.proofs.lemmas.List.{append_assoc}

pub remove-first : {A : Type 0} (xs : List A) → remove xs 0 ≡ drop 1 xs
remove-first [] = refl
remove-first (x ∷ xs) = refl

pub drop-none : {A : Type 0} (xs : List A) → length xs ≡ 0 → drop 1 xs ≡ xs
drop-none [] h = refl
drop-none (x ∷ xs) h = absurd (omega arith)

pub first-of : {A : Type 0} (xs : List A) → 0 < length xs → (x : A) × (rest : List A) × (xs ≡ x ∷ rest)
first-of [] h = absurd (omega arith)
first-of (x ∷ xs) h = (x, xs, refl)

pub drop-at : {A : Type 0} (xs : List A) (i : ℕ) (x : A) → slice_get xs i ≡ Some x → drop i xs ≡ x ∷ drop (i + 1) xs
drop-at xs i x h = let next : suc i ≡ i + 1 = omega arith in drop-next xs i x h ∙ ap (λ k. x ∷ drop k xs) next

-- one more item of a list that is made from another
pub mapped-more : {A B : Type 0} (f : A → B) (xs : List A) (done : List B) (i : ℕ) (x : A) → slice_get xs i ≡ Some x →
    done ++ map f (drop i xs) ≡ (done ++ f x ∷ []) ++ map f (drop (i + 1) xs)
mapped-more f xs done i x h = ap (λ l. done ++ map f l) (drop-at xs i x h) ∙ sym (append_assoc done (f x ∷ []) (map f (drop (i + 1) xs)))

pub mapped-all : {A B : Type 0} (f : A → B) (xs : List A) (done : List B) (i : ℕ) → length xs ≤ i → done ++ map f (drop i xs) ≡ done
mapped-all f xs done i h = ap (λ l. done ++ map f l) (drop_all i xs h) ∙ append-nil done

-- the item that another list's item was made from
from-item : {A B : Type 0} (f : A → B) (xs : List A) (n : ℕ) (d : B) → n < length (map f xs) → (x : A) ×
    (slice_get xs n ≡ Some x) × (slice_index_or (map f xs) n d ≡ f x)
from-item f [] n d h = absurd (omega arith)
from-item f (x ∷ xs) zero d h = (x, refl, refl)
from-item f (x ∷ xs) (suc n) d h = from-item f xs n d (omega arith)

pub made-from : {A B : Type 0} (f : A → B) (xs : List A) (ys : List B) (n : ℕ) (d : B) → ys ≡ map f xs → n < length ys
    → (x : A) × (slice_get xs n ≡ Some x) × (slice_index_or ys n d ≡ f x)
made-from f xs ys n d e h =
    let r = from-item f xs n d (subst (λ l. n < length l) e h) in
    (r.0, r.1, ap (λ l. slice_index_or l n d) e ∙ r.2)

pub take-at : {A : Type 0} (xs : List A) (i : ℕ) (x : A) → slice_get xs i ≡ Some x → take (i + 1) xs ≡ take i xs ++ x ∷ []
take-at xs i x h = let next : i + 1 ≡ suc i = omega arith in ap (λ k. take k xs) next ∙ take-next xs i x h
