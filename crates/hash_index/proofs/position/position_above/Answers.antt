use Rattle.element_store.proofs.Prelude.{key_at}
use Rattle.hash_index.proofs.Orders.{above_after, above_here}
use Rattle.hash_index.proofs.position.position_above.Goals as goal

pub returns-in-Some : goal.returns-in-Some
returns-in-Some c = above_after (key_at c.args.arena.now.slots) c.args.slots.now c.args.key.now c.position-at.result
    c.in-Some.field-0 c.requires.ascending c.position-at.ensures c.in-Some.ensures.some c.in-Some.ensures.same

pub returns-in-None : goal.returns-in-None
returns-in-None c = above_here (key_at c.args.arena.now.slots) c.args.slots.now c.args.key.now c.position-at.result
    c.requires.ascending c.position-at.ensures c.in-None.ensures.none
