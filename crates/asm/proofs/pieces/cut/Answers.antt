use Rattle.std.proofs.lemmas.Str.Pattern.{split_parts, split_after}
use Rattle.asm.proofs.Cuts.{split_none, split_front}
use Rattle.asm.proofs.pieces.cut.Goals as goal

pub returns-clause-none : goal.returns-clause-none
returns-clause-none c = split_none c.args.separator c.args.text.now c.split_once.result
    (split_parts c.args.separator c.args.text.now c.split_once.result c.split_once.ensures.cases c.requires)

pub returns-clause-only : goal.returns-clause-only
returns-clause-only c front back lacks e = split_after c.args.separator c.args.text.now front back c.split_once.result
    c.split_once.ensures.cases c.requires e lacks

pub returns-clause-first : goal.returns-clause-first
returns-clause-first c = split_front c.args.separator c.args.text.now c.split_once.result
    (split_parts c.args.separator c.args.text.now c.split_once.result c.split_once.ensures.cases c.requires)
