use Rattle.bpf_model.proofs.Prelude.{◌∙◌, sym, ap, subst}
use Rattle.element_store.proofs.Prelude.{is_at}
use Rattle.std.specs.FinMap as map
use Rattle.hash_index.proofs.commands.link_absent.Goals as goal

pub link-requires-clause-apart : goal.link-requires-clause-apart
link-requires-clause-apart g c = ap (λ o. is_at o c.args.slot)
    (ap (map.get (g.I.Index.contents c.args.index.now c.args.arena.now)) (sym c.key.ensures) ∙
    (sym c.find-place.ensures.slot ∙ c.in-None.is))

pub link-requires-clause-place : goal.link-requires-clause-place
link-requires-clause-place g c = subst (λ k. g.I.Index.is_place c.args.index.now c.args.arena.now k
    c.find-place.result) c.key.ensures c.find-place.ensures.place
