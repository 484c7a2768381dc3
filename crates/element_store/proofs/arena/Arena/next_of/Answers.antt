use Rattle.bpf_model.proofs.Prelude.{◌∙◌, ◌<◌, sym, ap, subst, rules, length, refl, slice_get_read, get-map, option_flatten}
use Rattle.element_store.proofs.Prelude.{IsTaken, link_at, ArenaState, link_view, shown_link}
use Rattle.element_store.proofs.Keeps.{taken_at, taken_cell}
use Rattle.element_store.proofs.Slots.{held_from}
use Rattle.element_store.proofs.arena.Arena.next_of.Goals as goal

pub returns : goal.returns
returns c =
    let s = c.self.inside in
    let t = held_from s.key_len s.value_len s.limit s.cells.items s.first s.keys.items s.values.items c.args.slot
    (subst (λ (a : ArenaState). IsTaken a c.args.slot) (sym c.self.view_is) c.requires) in
    let w = (taken_cell s.cells.items s.first s.last s.limit c.args.slot c.self.invariant.0 t).4 in
    let at = slice_get_read s.cells.items (length s.cells.items) c.args.slot c.index.result.now refl w c.index.ensures in
    let was = (taken_at s.cells.items s.first s.last s.limit c.args.slot c.index.result.now c.self.invariant.0 t at).0 in
    sym (ap (λ (a : ArenaState). link_at a.links c.args.slot) (sym c.self.view_is) ∙
    (ap option_flatten (get-map link_view s.cells.items c.args.slot c.index.result.now at) ∙
    ap (λ x. shown_link x c.index.result.now.link) was))

pub index-requires : goal.index-requires
index-requires c =
    let s = c.self.inside in
    let t = held_from s.key_len s.value_len s.limit s.cells.items s.first s.keys.items s.values.items c.args.slot
    (subst (λ (a : ArenaState). IsTaken a c.args.slot) (sym c.self.view_is) c.requires) in
    let w : c.args.slot < length s.cells.items = t.inside in
    search rules
