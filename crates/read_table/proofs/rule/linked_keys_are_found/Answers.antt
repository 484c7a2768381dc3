use Rattle.read_table.proofs.Finding.{never-null}
use Rattle.read_table.proofs.rule.linked_keys_are_found.Goals as goal

pub returns : goal.returns
returns c = never-null
