-- What holds of each instruction of a program, at its index.
use Rattle.bpf_model.proofs.Prelude.{◌≡◌, ℕ, zero, suc, List, [], ◌∷◌, Some, subst, slice_get, AllByRecursion, none-some, same_Some}
use Rattle.model_laws.proofs.Prelude.{Insn}

pub all-get : (P : Insn → Type 0) (is : List Insn) → AllByRecursion P is → (k : ℕ) (i : Insn) → slice_get is k ≡ Some i → P i
all-get P [] h k i e = absurd (none-some i e)
all-get P (j ∷ is) h zero i e = subst P (same_Some j i e) h.0
all-get P (j ∷ is) h (suc k) i e = all-get P is h.1 k i e
