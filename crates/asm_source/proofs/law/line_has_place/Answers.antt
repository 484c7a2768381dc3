use Rattle.asm_source.proofs.LabelLaws.{stands}
use Rattle.asm_source.proofs.law.line_has_place.Goals as goal

pub returns : goal.returns
returns c = stands
