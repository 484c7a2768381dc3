use Rattle.bpf_model.proofs.Prelude.{[], ◌∷◌, zero, suc, arith, All}
use Rattle.verifier.proofs.Prelude.{Checked}
use Rattle.shared_runs.specs.MapRuns.{ServesMaps}
use Rattle.table_tests.proofs.map_jobs.three_programs.Goals as goal

all_three : (P : Checked → Type 0) (x y z : Checked) → P x → P y → P z → All P (x ∷ y ∷ z ∷ [])
all_three P x y z p q r zero d low = p
all_three P x y z p q r (suc zero) d low = q
all_three P x y z p q r (suc (suc zero)) d low = r
all_three P x y z p q r (suc (suc (suc k))) d low = let no : ⊥ = omega arith in absurd no

pub returns : goal.returns
returns c = all_three (λ v. ServesMaps c.args.table.now.shape v.shapes)
    c.in_ok-lookup.lookup c.in_ok-load.load c.in_ok-store.store c.in_ok-lookup.ensures c.in_ok-load.ensures c.in_ok-store.ensures
