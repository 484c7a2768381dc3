use Rattle.bpf_model.proofs.Prelude.{[], ◌∷◌, zero, suc, arith, All}
use Rattle.verifier.proofs.Prelude.{Checked}
use Rattle.shared_runs.specs.Named.{ServesNamed}
use Rattle.table_tests.proofs.counting.two_programs.Goals as goal

all_two : (P : Checked → Type 0) (x y : Checked) → P x → P y → All P (x ∷ y ∷ [])
all_two P x y p q zero d low = p
all_two P x y p q (suc zero) d low = q
all_two P x y p q (suc (suc k)) d low = let no : ⊥ = omega arith in absurd no

pub returns : goal.returns
returns c = all_two (λ v. ServesNamed c.args.table.now.shape c.args.maps.now v.shapes)
    c.in_ok-first.first c.in_ok-second.second c.in_ok-first.ensures c.in_ok-second.ensures
