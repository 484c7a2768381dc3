use Rattle.bpf_model.proofs.Prelude.{refl}
use Rattle.element_store.proofs.Prelude.{key_at}
use Rattle.hash_index.specs.Sorted.{sorted_contents}
use Rattle.hash_index.proofs.Links.{found_same, gone_in, put_over}
use Rattle.hash_index.proofs.Orders.{stands_at}
use Rattle.hash_index.proofs.sorted.SortedIndex.link.Goals as goal

pub leave-requires-clause-at : goal.leave-requires-clause-at
leave-requires-clause-at c =
    let same = found_same (key_at c.args.arena.now.slots) c.args.self.now.slots.items
    (key_at c.args.arena.now.slots c.args.slot) _ c.in-Some.old c.requires.found c.in-Some.is in
    stands_at (key_at c.args.arena.now.slots) c.args.self.now.slots.items (key_at c.args.arena.now.slots c.args.slot)
    c.args.place.home c.in-Some.old c.requires.fits.order c.requires.place same.0 same.1

pub join-requires-in-Some-clause-absent : goal.join-requires-in-Some-clause-absent
join-requires-in-Some-clause-absent c =
    let same = found_same (key_at c.args.arena.now.slots) c.args.self.now.slots.items
    (key_at c.args.arena.now.slots c.args.slot) _ c.in-Some.old c.requires.found c.in-Some.is in
    gone_in (sorted_contents c.args.self.now c.args.arena.now) _ _ _ _ c.leave.ensures.contents same.1 refl

pub returns-in-Some-clause-contents : goal.returns-in-Some-clause-contents
returns-in-Some-clause-contents c =
    let same = found_same (key_at c.args.arena.now.slots) c.args.self.now.slots.items
    (key_at c.args.arena.now.slots c.args.slot) _ c.in-Some.old c.requires.found c.in-Some.is in
    put_over (sorted_contents c.args.self.now c.args.arena.now) _ _ _ _ _ c.args.slot c.leave.ensures.contents same.1 refl c.join-in-Some.ensures.contents
