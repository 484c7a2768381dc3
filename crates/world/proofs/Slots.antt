-- Run slots: the lowest free one.
use Rattle.bpf_model.proofs.Prelude.{◌≡◌, ◌∙◌, ℕ, zero, suc, ◌+◌, ◌<◌, List, [], ◌∷◌, length, Option, Some, None, refl, sym, ap, arith, add-one, slice_get}
use Rattle.bpf_model.proofs.Prelude.{map, option_map, none-some, same_Some, lowest_free}
use Rattle.machine.proofs.Prelude.{RunWords}
use Rattle.world.proofs.Prelude.{view_of}

abbrev pub Runs : Type 0
Runs = List (Option RunWords)

-- the slots below this one are occupied
abbrev pub AreTaken : Runs → ℕ → Type 0
AreTaken runs n = (k : ℕ) → k < n → slice_get runs k ≡ Some None → ⊥

pub free-here : (runs : Runs) (n : ℕ) → slice_get runs n ≡ Some None → AreTaken runs n → lowest_free (map view_of runs) ≡ Some n
free-here [] n e h = absurd (none-some None e)
free-here (None ∷ runs) zero e h = refl
free-here (None ∷ runs) (suc n) e h = absurd (h 0 (omega arith) refl)
free-here (Some r ∷ runs) zero e h = let s : Some r ≡ None = same_Some (Some r) None e in absurd (none-some r (sym s))
free-here (Some r ∷ runs) (suc n) e h =
    ap (option_map (λ k. k + 1)) (free-here runs n e (λ k l g. h (suc k) (omega arith) g)) ∙ ap (λ k. Some k) (add-one n)

pub free-none : (runs : Runs) → AreTaken runs (length runs) → lowest_free (map view_of runs) ≡ None
free-none [] h = refl
free-none (None ∷ runs) h = absurd (h 0 (omega arith) refl)
free-none (Some r ∷ runs) h = ap (option_map (λ k. k + 1)) (free-none runs (λ k l g. h (suc k) (omega arith) g))
