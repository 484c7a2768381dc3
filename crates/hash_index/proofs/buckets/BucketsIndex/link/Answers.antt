use Rattle.bpf_model.proofs.Prelude.{◌∙◌, sym, ap, subst}
use Rattle.element_store.proofs.Prelude.{ArenaState, key_at}
use Rattle.std.specs.FinMap as map
use Rattle.hash_index.specs.Buckets.{IsPlaceIn, chained_slots, contents_in}
use Rattle.hash_index.proofs.Links.{found_same, gone_in, put_over}
use Rattle.hash_index.proofs.buckets.BucketsIndex.link.Goals as goal

pub leave-requires-clause-place : goal.leave-requires-clause-place
leave-requires-clause-place c =
    let same = found_same (key_at c.args.arena.now.slots) (chained_slots c.args.self.now.heads.items c.args.arena.now)
    (key_at c.args.arena.now.slots c.args.slot) _ c.in-Some.old c.requires.found c.in-Some.is in
    subst (λ k. IsPlaceIn c.args.self.now.heads.items c.args.arena.now k c.args.place) (sym same.1) c.requires.place

pub leave-requires-clause-linked : goal.leave-requires-clause-linked
leave-requires-clause-linked c =
    let same = found_same (key_at c.args.arena.now.slots) (chained_slots c.args.self.now.heads.items c.args.arena.now)
    (key_at c.args.arena.now.slots c.args.slot) _ c.in-Some.old c.requires.found c.in-Some.is in
    ap (map.get (contents_in c.args.self.now c.args.arena.now)) same.1 ∙ (sym c.requires.found ∙ c.in-Some.is)

pub join-requires-in-Some-clause-absent : goal.join-requires-in-Some-clause-absent
join-requires-in-Some-clause-absent c =
    let same = found_same (key_at c.args.arena.now.slots) (chained_slots c.args.self.now.heads.items c.args.arena.now)
    (key_at c.args.arena.now.slots c.args.slot) _ c.in-Some.old c.requires.found c.in-Some.is in
    gone_in (contents_in c.args.self.now c.args.arena.now) _ _ _ _ c.leave.ensures.contents same.1
    (ap (λ (z : ArenaState). key_at z.slots c.args.slot) c.leave.ensures.links.rest)

pub returns-in-Some-clause-contents : goal.returns-in-Some-clause-contents
returns-in-Some-clause-contents c =
    let same = found_same (key_at c.args.arena.now.slots) (chained_slots c.args.self.now.heads.items c.args.arena.now)
    (key_at c.args.arena.now.slots c.args.slot) _ c.in-Some.old c.requires.found c.in-Some.is in
    put_over (contents_in c.args.self.now c.args.arena.now) _ _ _ _ _ c.args.slot c.leave.ensures.contents same.1
    (ap (λ (z : ArenaState). key_at z.slots c.args.slot) c.leave.ensures.links.rest)
    c.join-in-Some.ensures.contents
