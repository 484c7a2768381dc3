use Rattle.bpf_model.proofs.Prelude.{◌∙◌, ◌+◌, sym, arith}
use Rattle.element_store.proofs.Prelude.{GraceState, depth_at}
use Rattle.world.proofs.Prelude.{Enter, grace_after}
use Rattle.world.proofs.ServedFlags.{inside-awaits, same-grace}
use Rattle.world.proofs.section.enter.Goals as goal

pub returns : goal.returns
returns c =
    let old : GraceState = c.args.grace.now in
    same-grace c.open.new.self (grace_after Enter c.args.run old) c.open.ensures.depths
    (c.open.ensures.awaited ∙ sym (inside-awaits old c.args.run c.requires.inside (depth_at old c.args.run + 1) (omega arith)))
