use Rattle.bpf_model.proofs.Prelude.{arith, option_copied, slice_get-get_or}
use Rattle.element_store.proofs.Prelude.{key_at}
use Rattle.hash_index.proofs.Orders.{least_there, none_there}
use Rattle.hash_index.proofs.position.least_above.Goals as goal

pub returns-then-at-slots : goal.returns-then-at-slots
returns-then-at-slots c = least_there (key_at c.args.arena.now.slots) c.args.slots.now (option_copied c.args.bound)
    c.start_above-at.result _ c.requires.ascending c.start_above-at.ensures
    (slice_get-get_or c.args.slots.now c.start_above-at.result 0 c.if-at-slots.true)

pub returns : goal.returns
returns c = none_there (key_at c.args.arena.now.slots) c.args.slots.now (option_copied c.args.bound)
    c.start_above-at.result c.start_above-at.ensures (omega (arith, c.if-at-slots.false))
