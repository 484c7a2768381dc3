-- Where a slot stands in a list.
use Rattle.std.proofs.Common.{◌≡◌, ℕ, zero, suc, ◌<◌, List, [], ◌∷◌, Some, inl, inr, ap, subst}
use Rattle.std.proofs.Common.{arith, cond, eqb}
use Rattle.std.specs.Prelude.{slice_get}
use Rattle.std.proofs.lemmas.Option.{none-some, same_Some}
use Rattle.element_store.specs.State.{times_in}
use Rattle.element_store.proofs.Counts.{one_cases, times_first}

pub held_at : (xs : List ℕ) (i s : ℕ) → slice_get xs i ≡ Some s → 0 < times_in s xs
held_at [] i s h = absurd (none-some s h)
held_at (x ∷ xs) zero s h =
    subst (λ z. 0 < times_in z (x ∷ xs)) (same_Some x s h) (times_first x xs)
held_at (x ∷ xs) (suc i) s h = let p : 0 < times_in s xs = held_at xs i s h in omega arith

pub index_held : (xs : List ℕ) (s : ℕ) → 0 < times_in s xs → (i : ℕ) × (slice_get xs i ≡ Some s)
index_held [] s h = absurd (omega arith)
index_held (x ∷ xs) s h = elim (one_cases x s) [
  | inl y ↦ (zero, ap (λ z. Some z) y.0)
  | inr n ↦ let c : cond {A = ℕ} (eqb x s) 1 0 ≡ 0 = n.1 in let r = index_held xs s (omega arith) in
      (suc r.0, r.1)
]
