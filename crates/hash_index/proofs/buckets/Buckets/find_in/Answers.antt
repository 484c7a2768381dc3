use Rattle.bpf_model.proofs.Prelude.{◌≡◌, ◌∙◌, ◌<◌, sym, ap, rules, length, slice_get}
use Rattle.hash_index.specs.Chains.{bucket_of}
use Rattle.hash_index.proofs.Changes.{home_chain, lookup_home}
use Rattle.hash_index.proofs.Links.{head_at, place_in}
use Rattle.hash_index.proofs.buckets.Buckets.find_in.Goals as goal

pub search-requires-clause-chain : goal.search-requires-clause-chain
search-requires-clause-chain g c =
    let in_ : c.bucket-home.result < length c.args.self.now.heads.items = search rules in
    let at = head_at c.args.self.now.heads.items c.bucket-home.result c.index.result.now in_ c.index.ensures in
    home_chain c.args.self.now.heads.items c.args.arena.now c.bucket-home.result c.index.result.now c.requires.fits at

pub returns-clause-slot : goal.returns-clause-slot
returns-clause-slot g c =
    let in_ : c.bucket-home.result < length c.args.self.now.heads.items = search rules in
    let at = head_at c.args.self.now.heads.items c.bucket-home.result c.index.result.now in_ c.index.ensures in
    let long : c.len.result ≡ length c.args.self.now.heads.items = search rules in
    let home = c.bucket-home.ensures.bucket ∙ ap (λ n. bucket_of n c.args.key.now) long in
    c.search.ensures.slot ∙ lookup_home c.args.self.now.heads.items c.args.arena.now c.args.key.now c.index.result.now
    c.requires.fits (ap (slice_get c.args.self.now.heads.items) (sym home) ∙ at)

pub returns-clause-place : goal.returns-clause-place
returns-clause-place g c =
    let in_ : c.bucket-home.result < length c.args.self.now.heads.items = search rules in
    let at = head_at c.args.self.now.heads.items c.bucket-home.result c.index.result.now in_ c.index.ensures in
    let long : c.len.result ≡ length c.args.self.now.heads.items = search rules in
    let home = c.bucket-home.ensures.bucket ∙ ap (λ n. bucket_of n c.args.key.now) long in
    place_in c.args.self.now.heads.items c.args.arena.now c.args.key.now c.search.result c.bucket-home.result
    c.index.result.now home c.search.ensures.home at c.search.ensures.behind
