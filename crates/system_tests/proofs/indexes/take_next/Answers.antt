use Rattle.system_tests.proofs.Stocking.{took}
use Rattle.system_tests.proofs.indexes.take_next.Goals as goal

pub returns : goal.returns
returns c = took c.args.slots c.args.count c.args.arena.now c.take-slot.new.self _ _ c.take-slot.result
    c.requires.filled c.requires.room c.take-slot.ensures.none c.take-slot.ensures.slot c.take-slot.ensures.new
