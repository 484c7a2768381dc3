use Rattle.bpf_model.proofs.Prelude.{ap, subst, ◌∙◌, TracksSchedule, start_schedule, start_view}
use Rattle.control.specs.Setups.{SetupView, shapes_made}
use Rattle.control.proofs.setup.Setup.seal.Goals as goal

pub returns-in-Ok-clause-start : goal.returns-in-Ok-clause-start
returns-in-Ok-clause-start c =
    subst (λ s. TracksSchedule c.in-Ok.world (start_schedule (shapes_made s) s.programs)) c.self.view_is c.in-Ok.ensures.start

pub returns-in-Ok-clause-world : goal.returns-in-Ok-clause-world
returns-in-Ok-clause-world c = c.in-Ok.ensures.view ∙ ap (λ (s : SetupView). start_view s.registry.names (shapes_made s) s.programs) c.self.view_is
