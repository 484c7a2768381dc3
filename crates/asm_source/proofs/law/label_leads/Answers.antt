use Rattle.asm_source.proofs.LabelLaws.{leads}
use Rattle.asm_source.proofs.law.label_leads.Goals as goal

pub returns : goal.returns
returns c = leads
