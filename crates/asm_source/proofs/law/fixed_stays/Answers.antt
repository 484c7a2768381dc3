use Rattle.asm_source.proofs.FixedLaws.{text_stays}
use Rattle.asm_source.proofs.law.fixed_stays.Goals as goal

pub returns : goal.returns
returns c = text_stays
