use Rattle.bpf_model.proofs.Prelude.{◌∙◌, sym, ap}
use Rattle.element_store.proofs.Prelude.{key_at}
use Rattle.std.specs.FinMap as map
use Rattle.hash_index.specs.Sorted.{sorted_contents}
use Rattle.hash_index.proofs.Links.{found_same}
use Rattle.hash_index.proofs.Runs.{remove_absent}
use Rattle.hash_index.proofs.Orders.{stands_at}
use Rattle.hash_index.proofs.sorted.SortedIndex.unlink.Goals as goal

pub leave-requires-clause-at : goal.leave-requires-clause-at
leave-requires-clause-at c =
    let same = found_same (key_at c.args.arena.now.slots) c.args.self.now.slots.items c.args.key.now _ c.in-Some.slot
    c.find-place.ensures.slot c.in-Some.is in
    stands_at (key_at c.args.arena.now.slots) c.args.self.now.slots.items c.args.key.now c.find-place.result.home
    c.in-Some.slot c.requires.fits.order c.find-place.ensures.place same.0 same.1

pub returns-in-None-clause-contents : goal.returns-in-None-clause-contents
returns-in-None-clause-contents c = sym (remove_absent (sorted_contents c.args.self.now c.args.arena.now)
    c.args.key.now (sym c.find-place.ensures.slot ∙ c.in-None.is))

pub returns-in-Some-clause-contents : goal.returns-in-Some-clause-contents
returns-in-Some-clause-contents c =
    let same = found_same (key_at c.args.arena.now.slots) c.args.self.now.slots.items c.args.key.now _ c.in-Some.slot
    c.find-place.ensures.slot c.in-Some.is in
    c.leave.ensures.contents ∙ ap (map.remove (sorted_contents c.args.self.now c.args.arena.now)) same.1
