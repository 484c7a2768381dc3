use Rattle.std.proofs.lemmas.Str.Pattern.{strip_prefix_char}
use Rattle.asm.proofs.Cuts.{strip_only}
use Rattle.asm.proofs.pieces.without_first.Goals as goal

pub returns-clause-only : goal.returns-clause-only
returns-clause-only c = strip_only c.args.first c.args.text.now c.strip_prefix.result
    (strip_prefix_char c.args.first c.args.text.now c.strip_prefix.result c.strip_prefix.ensures.cases c.requires)
