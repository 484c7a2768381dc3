use Rattle.bpf_model.proofs.Prelude.{◌∙◌, sym, ap, subst}
use Rattle.element_store.proofs.Prelude.{key_at}
use Rattle.std.specs.FinMap as map
use Rattle.hash_index.specs.Buckets.{IsPlaceIn, chained_slots, contents_in}
use Rattle.hash_index.proofs.Links.{found_same}
use Rattle.hash_index.proofs.Runs.{remove_absent}
use Rattle.hash_index.proofs.buckets.BucketsIndex.unlink.Goals as goal

pub leave-requires-clause-place : goal.leave-requires-clause-place
leave-requires-clause-place c =
    let same = found_same (key_at c.args.arena.now.slots) (chained_slots c.args.self.now.heads.items c.args.arena.now)
    c.args.key.now _ c.in-Some.slot c.find-place.ensures.slot c.in-Some.is in
    subst (λ k. IsPlaceIn c.args.self.now.heads.items c.args.arena.now k c.find-place.result) (sym same.1) c.find-place.ensures.place

pub leave-requires-clause-linked : goal.leave-requires-clause-linked
leave-requires-clause-linked c =
    let same = found_same (key_at c.args.arena.now.slots) (chained_slots c.args.self.now.heads.items c.args.arena.now)
    c.args.key.now _ c.in-Some.slot c.find-place.ensures.slot c.in-Some.is in
    ap (map.get (contents_in c.args.self.now c.args.arena.now)) same.1 ∙ (sym c.find-place.ensures.slot ∙ c.in-Some.is)

pub returns-in-None-clause-contents : goal.returns-in-None-clause-contents
returns-in-None-clause-contents c = sym (remove_absent (contents_in c.args.self.now c.args.arena.now) c.args.key.now
    (sym c.find-place.ensures.slot ∙ c.in-None.is))

pub returns-in-Some-clause-contents : goal.returns-in-Some-clause-contents
returns-in-Some-clause-contents c =
    let same = found_same (key_at c.args.arena.now.slots) (chained_slots c.args.self.now.heads.items c.args.arena.now)
    c.args.key.now _ c.in-Some.slot c.find-place.ensures.slot c.in-Some.is in
    c.leave.ensures.contents ∙ ap (map.remove (contents_in c.args.self.now c.args.arena.now)) same.1
