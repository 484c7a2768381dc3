-- One more step of a run.
use Rattle.bpf_model.proofs.Prelude.{◌≡◌, ℕ, suc, ◌+◌, subst, arith, List, State, Environment, Moves}
use Rattle.bpf_model.specs.declared.insn.Insn.{Insn}
use Rattle.reference_interpreter.specs.Plain.{StepsByItself}
use Rattle.reference_interpreter.specs.Runs.{Walks, walks_more}

pub walked_on : (program : List Insn) (env : Environment) (from : State) (s : ℕ) (m next : State) →
    Walks program env from s m → StepsByItself program env m (Moves next) → Walks program env from (s + 1) next
walked_on program env from s m next w st = let e : suc s ≡ s + 1 = omega arith in subst (λ t. Walks program env from t next) e (walks_more s m next w st)
