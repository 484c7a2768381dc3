use Rattle.insn_codec.proofs.OneOutcome.{one_program}
use Rattle.insn_codec.proofs.law.one_program.Goals as goal

pub returns : goal.returns
returns c = one_program
