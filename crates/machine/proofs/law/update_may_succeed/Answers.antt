use Rattle.machine.proofs.Possible.{update_may_succeed}
use Rattle.machine.proofs.law.update_may_succeed.Goals as goal

pub returns : goal.returns
returns c = λ checked r j hash a zero. update_may_succeed checked r j hash a zero
