use Rattle.machine.proofs.Possible.{delete_may_find_nothing}
use Rattle.machine.proofs.law.delete_may_find_nothing.Goals as goal

pub returns : goal.returns
returns c = λ checked r j hash a. delete_may_find_nothing checked r j hash a
