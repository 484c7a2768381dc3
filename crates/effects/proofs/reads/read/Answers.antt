use Rattle.bpf_model.proofs.Prelude.{rules, ap, ◌∙◌, SFits, to_z-of_z}
use Rattle.register_kinds.proofs.Prelude.{kind_of}
use Rattle.std.proofs.Common.{w16}
use Rattle.effects.proofs.reads.read.Goals as goal

pub returns-in_ok-check_within-in-Ctx-clause-reads : goal.returns-in_ok-check_within-in-Ctx-clause-reads
returns-in_ok-check_within-in-Ctx-clause-reads c =
    let g : SFits w16 c.args.from.offset = search rules in
    let inside = simp to_z-of_z at c.in_ok-check_within-in-Ctx.ensures.inside in
    record { offsets = c.in-Ctx.offsets; base = ap kind_of (c.in_ok-offsets.ensures.value ∙ c.in-Ctx.is); inside = inside }

pub returns-in_ok-_shape-in-Value-clause-reads : goal.returns-in_ok-_shape-in-Value-clause-reads
returns-in_ok-_shape-in-Value-clause-reads c =
    let g : SFits w16 c.args.from.offset = search rules in
    let inside = simp to_z-of_z at c.in_ok-_shape-in-Value.ensures.inside in
    record {
      shape = c.in_ok-_shape-in-Value._shape;
      offsets = c.in-Value.offset;
      base = ap kind_of (c.in_ok-offsets.ensures.value ∙ c.in-Value.is);
      shape_is = c.in_ok-_shape-in-Value.ensures.shape;
      inside = inside;
    }
