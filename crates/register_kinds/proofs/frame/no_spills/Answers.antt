use Rattle.register_kinds.specs.declared.frame.TheConstants.{GROUPS}
use Rattle.register_kinds.proofs.Pairs.{kinds_unwritten}
use Rattle.register_kinds.proofs.frame.no_spills.Goals as goal

pub returns : goal.returns
returns c = kinds_unwritten GROUPS
