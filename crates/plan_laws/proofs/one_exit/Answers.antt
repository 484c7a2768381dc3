use Rattle.plan_laws.proofs.Exits.{one_exit}
use Rattle.plan_laws.proofs.one_exit.Goals as goal

pub returns-clause-steps : goal.returns-clause-steps
returns-clause-steps c shapes program context s t n k x y = (one_exit shapes program context s t n k x y).0

pub returns-clause-value : goal.returns-clause-value
returns-clause-value c shapes program context s t n k x y = (one_exit shapes program context s t n k x y).1
