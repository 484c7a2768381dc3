use Rattle.bpf_model.proofs.Prelude.{◌∙◌}
use Rattle.element_store.proofs.Prelude.{GraceState}
use Rattle.world.proofs.Prelude.{Leave, grace_after}
use Rattle.world.proofs.ServedFlags.{same-grace, unlocked-awaits}
use Rattle.world.proofs.section.leave.Goals as goal

pub returns : goal.returns
returns c =
    let old : GraceState = c.args.grace.now in
    same-grace c.close.new.self (grace_after Leave c.args.run old) c.close.ensures.depths
    (c.close.ensures.awaited ∙ unlocked-awaits old c.args.run c.requires.inside c.requires.depth)
