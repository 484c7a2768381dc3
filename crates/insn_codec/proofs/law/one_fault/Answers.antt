use Rattle.insn_codec.proofs.OneOutcome.{one_fault}
use Rattle.insn_codec.proofs.law.one_fault.Goals as goal

pub returns : goal.returns
returns c = one_fault
