use Rattle.bpf_model.proofs.Prelude.{◌<◌, Some, rules, length, refl, slice_set, slice_get_read}
use Rattle.hash_index.proofs.Changes.{Linked, linked_in}
use Rattle.hash_index.proofs.Links.{one_link}
use Rattle.hash_index.proofs.buckets.Buckets.join.Goals as goal

joined : (c : goal.After-self-1) → Linked c.args.self.now.heads.items
    (slice_set c.args.self.now.heads.items c.args.home (Some c.args.slot)) c.args.arena.now c.set_next.new.self
    c.args.slot
joined c =
    let heads = c.args.self.now.heads.items in
    let inside : c.args.home < length c.args.self.now.heads.items = search rules in
    let at = slice_get_read heads (length heads) c.args.home c.index.result.now refl inside c.index.ensures in
    linked_in heads c.args.arena.now c.set_next.new.self c.args.home c.index.result.now c.args.slot c.requires.fits at
    c.requires.home c.requires.taken c.requires.absent c.set_next.ensures.new c.set_next.ensures.linked

pub returns-clause-contents : goal.returns-clause-contents
returns-clause-contents c = (joined c).contents

pub returns-clause-fits : goal.returns-clause-fits
returns-clause-fits c = (joined c).fits

pub returns-clause-links : goal.returns-clause-links
returns-clause-links c = one_link c.args.arena.now c.set_next.new.self c.args.slot c.index.result.now c.set_next.ensures.new
