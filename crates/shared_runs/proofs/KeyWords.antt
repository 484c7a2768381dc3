-- The words of a key, one after another.
use Rattle.bpf_model.proofs.Prelude.{◌≡◌, ℕ, zero, suc, ◌+◌, ◌*◌, ◌<◌, [], ◌∷◌, inl, inr, sym, ap, subst, ◌∙◌, arith, List, Option, Some, length, slice_get}
use Rattle.bpf_model.proofs.Prelude.{slice_index, slice_set, cases_eq, get_or-set_other, get_or-set_same, number_at}
use Rattle.shared_runs.specs.MapTables.{AreBytesOf}

-- one more word was written
pub one-more : (read : ℕ → Option ℕ) (words : List ℕ) (place x : ℕ) → place < length words →
    ((p : ℕ) → p < place → read p ≡ Some (slice_index words p)) → read place ≡ Some x →
    (p : ℕ) → p < place + 1 → read p ≡ Some (slice_index (slice_set words place x) p)
one-more read words place x room before now p l = elim (cases_eq p place) [
  | inl e ↦ subst (λ q. read q ≡ Some (slice_index (slice_set words place x) q)) (sym e) (now ∙ ap Some (sym (get_or-set_same words place x 0 room)))
  | inr other ↦ before p (omega (arith, l, other)) ∙ ap Some (sym (get_or-set_other words place p x 0 other))
]

at-one : (word : ℕ) (bytes : List ℕ) → number_at (slice_get bytes) 0 8 ≡ Some word → (place : ℕ) → place < 1 →
    number_at (slice_get bytes) (8 * place) 8 ≡ Some (slice_index (word ∷ []) place)
at-one word bytes h zero low = h
at-one word bytes h (suc place) low = absurd (omega arith)

-- the word of a key of one
pub one-word : (word : ℕ) (bytes : List ℕ) → length bytes ≡ 8 → number_at (slice_get bytes) 0 8 ≡ Some word →
    AreBytesOf (word ∷ []) bytes
one-word word bytes long h = record { long = long; each = at-one word bytes h }
