use Rattle.bpf_model.proofs.Prelude.{◌≡◌, ◌<◌, rules, length, Some, slice_get, slice_set}
use Rattle.hash_index.proofs.Changes.{CanCut, Unlinked, can_cut, unlinked_in}
use Rattle.hash_index.proofs.Links.{head_at}
use Rattle.hash_index.proofs.buckets.Buckets.leave.Goals.{After-index-first, After-cut}
use Rattle.hash_index.proofs.buckets.Buckets.leave.Goals as goal

-- the head of the key's chain, from which the slot can be cut, and what is left
at_home : (c : After-index-first) → slice_get c.args.self.now.heads.items c.args.place.home ≡ Some c.index-first.result.now
at_home c =
    let inside : c.args.place.home < length c.args.self.now.heads.items = search rules in
    head_at c.args.self.now.heads.items c.args.place.home c.index-first.result.now inside c.index-first.ensures

can : (c : After-index-first) → CanCut c.args.self.now.heads.items c.args.arena.now c.index-first.result.now c.args.slot
can c = can_cut c.args.self.now.heads.items c.args.arena.now c.args.place.home c.index-first.result.now c.args.slot
    c.requires.fits (at_home c) c.requires.place.home c.requires.linked

left : (c : After-cut) → Unlinked c.args.self.now.heads.items
    (slice_set c.args.self.now.heads.items c.args.place.home c.cut.result) c.args.arena.now c.cut.new.arena c.args.slot
left c = unlinked_in c.args.self.now.heads.items c.args.arena.now c.cut.new.arena c.args.place.home
    c.index-first.result.now c.cut.result c.args.slot c.requires.fits (at_home (goal.at.After-cut c).After-index-first)
    c.requires.place.home c.requires.linked c.cut.ensures

pub cut-requires-clause-chain : goal.cut-requires-clause-chain
cut-requires-clause-chain c = (can (goal.at.cut-requires-clause-chain c).After-index-first).chain

pub cut-requires-clause-once : goal.cut-requires-clause-once
cut-requires-clause-once c = (can (goal.at.cut-requires-clause-once c).After-index-first).once

pub cut-requires-clause-behind : goal.cut-requires-clause-behind
cut-requires-clause-behind c = c.requires.place.behind c.index-first.result.now c.args.slot
    (at_home (goal.at.cut-requires-clause-behind c).After-index-first) c.requires.slot

pub returns-clause-contents : goal.returns-clause-contents
returns-clause-contents c = (left (goal.at.returns-clause-contents c).After-cut).contents

pub returns-clause-fits : goal.returns-clause-fits
returns-clause-fits c = (left (goal.at.returns-clause-fits c).After-cut).fits

pub returns-clause-links : goal.returns-clause-links
returns-clause-links c = (left (goal.at.returns-clause-links c).After-cut).links
