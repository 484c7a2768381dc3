use Rattle.bpf_model.proofs.Prelude.{rules}
use Rattle.shared.proofs.Meters.{writes_totals}
use Rattle.shared.proofs.state.write_totals.Goals as goal

pub swap_as-requires : goal.swap_as-requires
swap_as-requires g c =
    let r = c.requires.rise in
    (search rules, (search rules, (c.requires.cell, writes_totals _ _ r.before c.args.totals r.knows r.rise)))
