use Rattle.bpf_model.proofs.Prelude.{[], ◌∷◌, zero, suc, arith, All}
use Rattle.read_table.proofs.Prelude.{table_of}
use Rattle.verifier.proofs.Prelude.{Checked}
use Rattle.shared_runs.specs.Words.{FitsTable}
use Rattle.table_tests.proofs.jobs.two_programs.Goals as goal

all_two : (P : Checked → Type 0) (x y : Checked) → P x → P y → All P (x ∷ y ∷ [])
all_two P x y p q zero d low = p
all_two P x y p q (suc zero) d low = q
all_two P x y p q (suc (suc k)) d low = let no : ⊥ = omega arith in absurd no

pub returns : goal.returns
returns c = all_two (λ v. FitsTable (table_of c.args.table.now.shape) v.shapes)
    c.in_ok-lookup.lookup c.in_ok-byte.byte c.in_ok-lookup.ensures c.in_ok-byte.ensures
