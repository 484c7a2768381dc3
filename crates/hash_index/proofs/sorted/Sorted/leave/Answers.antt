use Rattle.bpf_model.proofs.Prelude.{◌≡◌, ◌<◌, arith, rules, length, vec_len, slice_get_within}
use Rattle.hash_index.proofs.Ordered.{sorted_unlink}
use Rattle.hash_index.proofs.sorted.Sorted.leave.Goals as goal

pub remove-slot-requires : goal.remove-slot-requires
remove-slot-requires c =
    let in_ : c.args.position < length c.args.self.now.slots.items = slice_get_within c.args.self.now.slots.items c.args.position c.args.slot c.requires.at in
    let l : vec_len c.args.self.now.slots ≡ length c.args.self.now.slots.items = search rules in
    omega arith

pub returns-clause-contents : goal.returns-clause-contents
returns-clause-contents c = (sorted_unlink c.args.self.now (record { slots = c.remove-slot.new.self })
    c.args.arena.now c.args.slot c.args.position c.requires.fits c.requires.at c.remove-slot.ensures.items
    c.remove-slot.ensures.capacity).1

pub returns-clause-fits : goal.returns-clause-fits
returns-clause-fits c = (sorted_unlink c.args.self.now (record { slots = c.remove-slot.new.self }) c.args.arena.now
    c.args.slot c.args.position c.requires.fits c.requires.at c.remove-slot.ensures.items
    c.remove-slot.ensures.capacity).0
