use Rattle.plan_laws.proofs.Exits.{exits_alone}
use Rattle.plan_laws.proofs.exits_alone.Goals as goal

pub returns : goal.returns
returns c shapes program context s n none x = exits_alone shapes program context s n none x
