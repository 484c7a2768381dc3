use Rattle.bpf_model.proofs.Prelude.{◌≡◌, ◌<◌, arith, rules, length, vec_len, vec_capacity}
use Rattle.element_store.proofs.Prelude.{key_at}
use Rattle.hash_index.proofs.Ordered.{has_room, sorted_link, placed}
use Rattle.hash_index.proofs.sorted.Sorted.join.Goals as goal

pub put_at-requires-clause-room : goal.put_at-requires-clause-room
put_at-requires-clause-room c =
    let r : length c.args.self.now.slots.items < vec_capacity c.args.self.now.slots =
    has_room c.args.self.now c.args.arena.now c.args.slot c.requires.fits c.requires.taken c.requires.absent in
    let l : vec_len c.args.self.now.slots ≡ length c.args.self.now.slots.items = search rules in
    omega arith

pub returns-clause-contents : goal.returns-clause-contents
returns-clause-contents c = (sorted_link c.args.self.now (record { slots = c.put_at.new.list }) c.args.arena.now
    c.args.slot c.position-position.result c.requires.fits c.requires.taken c.requires.absent
    (placed (key_at c.args.arena.now.slots) _ _ _ _ _ c.deref.ensures.value c.key.ensures c.position-position.ensures)
    c.put_at.ensures.items c.put_at.ensures.room).1

pub returns-clause-fits : goal.returns-clause-fits
returns-clause-fits c = (sorted_link c.args.self.now (record { slots = c.put_at.new.list }) c.args.arena.now
    c.args.slot c.position-position.result c.requires.fits c.requires.taken c.requires.absent
    (placed (key_at c.args.arena.now.slots) _ _ _ _ _ c.deref.ensures.value c.key.ensures c.position-position.ensures)
    c.put_at.ensures.items c.put_at.ensures.room).0
