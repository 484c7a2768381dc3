use Rattle.bpf_model.proofs.Prelude.{subst}
use Rattle.world.proofs.Prelude.{HasNoRun}
use Rattle.world.proofs.Slots.{Runs}
use Rattle.world.proofs.Exits.{none-pass, shows-nothing}
use Rattle.world.proofs.kept.parts.Parts.run.Goals as goal

pub returns-clause-none : goal.returns-clause-none
returns-clause-none c =
    none-pass c.run_at.result
    (λ (nowhere : HasNoRun c.deref.result.now c.args.run).
    shows-nothing c.self.inside.registry.names c.self.inside.registry.maps c.self.inside.runs.items
    c.self.inside.grace c.self.inside.programs.items c.self.inside.given c.args.self.now c.self.view_is c.args.run
    (subst (λ (rs : Runs). HasNoRun rs c.args.run) c.deref.ensures.value nowhere))
    c.run_at.ensures.none
