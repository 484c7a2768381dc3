-- Results that are equal.
use Rattle.bpf_model.proofs.Prelude.{◌≡◌, Ok, Result}

pub same_Ok : {A B : Type 0} (a b : A) → ◌≡◌ {A = Result A B} (Ok a) (Ok b) → a ≡ b
same_Ok a b e = cc
