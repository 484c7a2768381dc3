-- Words of an element that were loaded one after another.
use Rattle.table_words.proofs.Prelude.{◌≡◌, ℕ, zero, suc, ◌+◌, ◌<◌, ◌≤◌, List, ◌∷◌, length, refl, sym, ap, ◌∙◌, subst, inl, inr, arith, add-one, set}
use Rattle.table_words.proofs.Prelude.{get_or-set_same, get_or-set_other, slice_index, dite, ℕ_discrete, HadWord}
use Rattle.map_table.proofs.Prelude.{Move, Load, Reads}

-- a word behind them changes none of them
reads_set : (element from : ℕ) (words : List ℕ) (at x n : ℕ) (ms : List Move) → n ≤ at → Reads element from words n ms →
    Reads element from (set words at x) n ms
reads_set element from words at x zero ms low r = r
reads_set element from words at x (suc n) ms low r =
    let same : slice_index words n ≡ slice_index (set words at x) n = sym (get_or-set_other words at n x 0 (λ e. absurd (omega (arith, low, e)))) in
    (r.0, r.1 ∙ (λ i. Load element (from + n) (same i) ∷ r.0), reads_set element from words at x n r.0 (omega (arith, low)) r.2)

-- one more
pub reads_more : (element from : ℕ) (words : List ℕ) (at place x : ℕ) (ms : List Move) → place ≡ from + at → at < length words →
    Reads element from words at ms → Reads element from (set words at x) (at + 1) (Load element place x ∷ ms)
reads_more element from words at place x ms here within r =
    let same : x ≡ slice_index (set words at x) at = sym (get_or-set_same words at x 0 within) in
    subst (λ z. Reads element from (set words at x) z (Load element place x ∷ ms)) (sym (add-one at))
    (ms, (λ i. Load element (here i) (same i) ∷ ms), reads_set element from words at x at ms (omega arith) r)

-- each of them was found
pub reads_had : (element : ℕ) (words : List ℕ) (n : ℕ) (ms : List Move) → Reads element 0 words n ms → (place : ℕ) → place < n →
    HadWord element place (slice_index words place) ms
reads_had element words zero ms r place low = absurd (omega (arith, low))
reads_had element words (suc n) ms r place low = subst (HadWord element place (slice_index words place)) (sym r.1) (dite (ℕ_discrete n place)
    (λ same. let here : 0 + n ≡ place = omega (arith, same) in inl (refl, here, ap (slice_index words) same))
    (λ ne. inr (reads_had element words n r.0 r.2 place (omega (arith, low, ne)))))
