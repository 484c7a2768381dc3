use Rattle.asm.proofs.FaultLaws.{one_fault}
use Rattle.asm.proofs.law.one_fault.Goals as goal

pub returns : goal.returns
returns c = one_fault
