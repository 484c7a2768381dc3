use Rattle.read_table.proofs.Safe.{finds_stored}
use Rattle.read_table.proofs.rule.loads_find_what_was_stored.Goals as goal

pub returns : goal.returns
returns c = finds_stored
