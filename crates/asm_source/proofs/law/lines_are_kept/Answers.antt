use Rattle.asm_source.proofs.KeptLaws.{lines_kept}
use Rattle.asm_source.proofs.law.lines_are_kept.Goals as goal

pub returns : goal.returns
returns c = lines_kept
