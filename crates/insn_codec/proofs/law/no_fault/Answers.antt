use Rattle.insn_codec.proofs.OneOutcome.{no_fault}
use Rattle.insn_codec.proofs.law.no_fault.Goals as goal

pub returns : goal.returns
returns c = no_fault
