use Rattle.element_store.proofs.Depths.{none-inside}
use Rattle.element_store.proofs.grace.Grace.new.Goals as goal

pub invariant_of-result : goal.invariant_of-result
invariant_of-result c = none-inside c.empty.result c.empty-2.result c.empty.ensures c.empty-2.ensures
