use Rattle.machine.proofs.Laws.{served_as}
use Rattle.machine.proofs.law.served_as_asked.Goals as goal

pub returns : goal.returns
returns c = λ insn request program r v w e. served_as request program r v w insn e
