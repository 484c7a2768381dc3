-- Flags that are set in both of two lists.
use Rattle.bpf_model.proofs.Prelude.{◌≡◌, ℕ, ◌+◌, ◌≤◌, List, [], ◌∷◌, ◌++◌, Some, Bool, refl, sym, ap, ◌∙◌, length, slice_get, drop, ◌&&◌, append-nil}
use Rattle.bpf_model.proofs.Prelude.{drop_all, still_open}
use Rattle.std.proofs.lemmas.List.{append_assoc}
use Rattle.reference_store.proofs.Lists.{drop-at}

pub flags-more : (xs ys done : List Bool) (i : ℕ) (a b : Bool) → slice_get xs i ≡ Some a → slice_get ys i ≡ Some b →
    done ++ still_open (drop i xs) (drop i ys) ≡ (done ++ (a && b) ∷ []) ++ still_open (drop (i + 1) xs)
    (drop (i + 1) ys)
flags-more xs ys done i a b h g = ap (λ l. done ++ still_open l (drop i ys)) (drop-at xs i a h) ∙
    ap (λ l. done ++ still_open (a ∷ drop (i + 1) xs) l) (drop-at ys i b g) ∙
    sym (append_assoc done ((a && b) ∷ []) (still_open (drop (i + 1) xs) (drop (i + 1) ys)))

no-second : (xs : List Bool) → still_open xs [] ≡ []
no-second [] = refl
no-second (a ∷ xs) = refl

pub flags-first : (xs ys done : List Bool) (i : ℕ) → length xs ≤ i → done ++ still_open (drop i xs) (drop i ys) ≡ done
flags-first xs ys done i h = ap (λ l. done ++ still_open l (drop i ys)) (drop_all i xs h) ∙ append-nil done

pub flags-second : (xs ys done : List Bool) (i : ℕ) → length ys ≤ i → done ++ still_open (drop i xs) (drop i ys) ≡ done
flags-second xs ys done i h = ap (λ l. done ++ still_open (drop i xs) l) (drop_all i ys h) ∙ ap (λ l. done ++ l) (no-second (drop i xs)) ∙ append-nil done
