use Rattle.element_store.proofs.Prelude.{key_at}
use Rattle.hash_index.proofs.Orders.{found, unique-ascending}
use Rattle.hash_index.proofs.position.find_in.Goals as goal

pub returns-clause-slot : goal.returns-clause-slot
returns-clause-slot c = found (key_at c.args.arena.now.slots) c.args.slots.now c.args.key.now c.position-home.result
    (unique-ascending (key_at c.args.arena.now.slots) c.args.slots.now c.args.key.now c.position-home.result
    c.requires.ascending) c.requires.ascending c.position-home.ensures c.standing.result c.standing.ensures.some
    c.standing.ensures.same c.standing.ensures.none
