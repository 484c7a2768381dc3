use Rattle.bpf_model.proofs.Prelude.{◌≡◌, ℕ, List, subst}
use Rattle.model_laws.proofs.Prelude.{MapShape}
use Rattle.plan_laws.proofs.Prelude.{MayExitWith}
use Rattle.shared_runs.specs.Lone.{loaded_alone}
use Rattle.shared_runs.proofs.alone.driver.run_to_exit.Goals as goal

pub returns-clause-only : goal.returns-clause-only
returns-clause-only c = subst (λ (b : List ℕ). (shapes : List MapShape) (steps value : ℕ) →
    MayExitWith shapes (loaded_alone c.args.verified.now) b steps value →
    (c.run_over.result.steps ≡ steps) × (c.run_over.result.value ≡ value)) c.as_slice.ensures.value c.run_over.ensures.only
