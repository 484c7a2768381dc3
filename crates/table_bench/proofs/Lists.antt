-- Lists of readers.
use Rattle.bpf_model.proofs.Prelude.{List, Bool, true, false, All, if◌then◌else◌}

-- whichever of two lists it is, each of its elements is so
pub all-either : {A : Type 0} → (P : A → Type 0) → (b : Bool) → (xs ys : List A) → All P xs → All P ys → All P (if b then xs else ys)
all-either P true xs ys p q = p
all-either P false xs ys p q = q
