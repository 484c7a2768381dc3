use Rattle.asm.proofs.ArgumentLaws.{base_offset_plus, base_offset_minus, no_base_offset}
use Rattle.asm.proofs.argument.read_base_offset.Goals as goal

pub returns-in-Some-clause-only : goal.returns-in-Some-clause-only
returns-in-Some-clause-only c = base_offset_plus c.args.text.now c.in-Some.base.now c.in-Some.offset.now
    c.read_offset.result c.in-Some.ensures.parts c.in-Some.ensures.only c.read_offset.ensures.only

pub returns-in_err-base-clause-only : goal.returns-in_err-base-clause-only
returns-in_err-base-clause-only c b sign o e = absurd (no_base_offset c.args.text.now c.in_default.ensures.none c.in_err-base.ensures.only b sign o e)

pub returns-clause-only : goal.returns-clause-only
returns-clause-only c = base_offset_minus c.args.text.now c.in_ok-base.base.now c.in_ok-base.offset.now
    c.read_offset-2.result c.in_default.ensures.none c.in_ok-base.ensures.only c.read_offset-2.ensures.only
