use Rattle.bpf_model.proofs.Prelude.{◌≡◌, ◌∙◌, ap, subst, TracksSchedule, start_schedule, WorldView, start_view}
use Rattle.control.specs.Setups.{SetupView, shapes_made}
use Rattle.control.specs.declared.live.Live.{Live}
use Rattle.control.specs.Lives.{LiveReplies}
use Rattle.control.specs.Sessions.{sealed, TracksStart}
use Rattle.control.proofs.setup_commands.answer_first.Goals as goal

pub returns-clause-ok : goal.returns-clause-ok
returns-clause-ok c =
    let a = c.in_ok-refusal.ensures.ok in
    let old = c.replace-made.ensures.value in
    let world = c.in_ok-world.ensures.world ∙ ap (λ (s : SetupView). start_view s.registry.names (shapes_made s) s.programs) old in
    let same : ◌≡◌ {A = Live} (record { world = c.in_ok-world.world }) (sealed c.args.setup.now) = λ i. record { world = world i } in
    let first = subst (λ (s : SetupView). TracksSchedule c.in_ok-world.world (start_schedule (shapes_made s) s.programs)) old c.in_ok-world.ensures.start in
    let starts : TracksStart c.args.setup.now = subst (λ (w : WorldView).
    TracksSchedule w (start_schedule (shapes_made c.args.setup.now) c.args.setup.now.programs)) world first in
    (a.0, starts, subst (λ (l : Live). LiveReplies l c.args.command a.0 c.answer.new.self) same a.1, a.2, a.3)
