use Rattle.bpf_model.proofs.Prelude.{rules, SFits, to_z-of_z}
use Rattle.std.proofs.Common.{w16}
use Rattle.effects.proofs.reads.check_value.Goals as goal

pub returns-in_ok-check_within-in-Some-clause-inside : goal.returns-in_ok-check_within-in-Some-clause-inside
returns-in_ok-check_within-in-Some-clause-inside c =
    let g : SFits w16 c.args.offset = search rules in
    simp to_z-of_z at c.in_ok-check_within-in-Some.ensures.inside
