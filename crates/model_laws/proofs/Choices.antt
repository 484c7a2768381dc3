-- The first of the tests of an update that fails, where none does.
use Rattle.bpf_model.proofs.Prelude.{◌≡◌, ℕ, List, [], ◌∷◌, length, None, Some, refl, Bool, true, false, ◌==◌, if◌then◌else◌}
use Rattle.model_laws.proofs.Prelude.{Errno}

-- where a map slot is free, one is the first
pub bag-has : (bag : List ℕ) → (length bag == 0) ≡ false → (c : ℕ) × (rest : List ℕ) × (bag ≡ c ∷ rest)
bag-has [] h = absurd (cc)
bag-has (c ∷ rest) h = (c, rest, refl)

pub last-false : (a b c d e : Bool) (p q r s t : Errno) →
    (if a then Some p else if b then Some q else if c then Some r else if d then Some s else if e then Some t else
    None) ≡ None → e ≡ false
last-false true b c d e p q r s t h = absurd (cc)
last-false false true c d e p q r s t h = absurd (cc)
last-false false false true d e p q r s t h = absurd (cc)
last-false false false false true e p q r s t h = absurd (cc)
last-false false false false false true p q r s t h = absurd (cc)
last-false false false false false false p q r s t h = refl
