use Rattle.machine.proofs.Reacting.{reacts_by_insn}
use Rattle.machine.proofs.law.reacts_by_insn.Goals as goal

pub returns : goal.returns
returns c = reacts_by_insn
