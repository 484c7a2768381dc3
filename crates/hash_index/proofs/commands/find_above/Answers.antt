use Rattle.bpf_model.proofs.Prelude.{◌∙◌, ℕ, List, Some, None, sym, ap, option_map, entries}
use Rattle.element_store.proofs.Prelude.{key_at}
use Rattle.hash_index.specs.Replies.{first_above}
use Rattle.hash_index.proofs.Firsts.{next_is}
use Rattle.hash_index.proofs.commands.find_above.Goals as goal

pub returns-in-None : goal.returns-in-None
returns-in-None g c =
    next_is (key_at c.args.arena.now.slots) None (g.I.Index.contents c.args.index.now c.args.arena.now)
    c.next_above.result c.next_above.ensures.some c.next_above.ensures.above c.next_above.ensures.least
    c.next_above.ensures.none
    ∙ ap (λ o. first_above (option_map (λ k. k.items) o) (entries (g.I.Index.contents c.args.index.now c.args.arena.now))) (sym c.in-None.is)

pub returns-in-Some : goal.returns-in-Some
returns-in-Some g c =
    next_is (key_at c.args.arena.now.slots) (Some c.as_slice.result.now)
    (g.I.Index.contents c.args.index.now c.args.arena.now) c.next_above-in-Some.result
    c.next_above-in-Some.ensures.some c.next_above-in-Some.ensures.above c.next_above-in-Some.ensures.least
    c.next_above-in-Some.ensures.none
    ∙ (ap (λ (b : List ℕ). first_above (Some b) (entries (g.I.Index.contents c.args.index.now c.args.arena.now))) c.as_slice.ensures.value
    ∙ ap (λ o. first_above (option_map (λ k. k.items) o) (entries (g.I.Index.contents c.args.index.now c.args.arena.now))) (sym c.in-Some.is))
