use Rattle.bpf_model.proofs.Prelude.{◌∙◌, ◌<◌, List, sym, ap, subst, rules, length, refl, slice_set, slice_get_read, SlotView, length-set, get-map}
use Rattle.bpf_model.proofs.Prelude.{get-set_same, option_flatten}
use Rattle.element_store.proofs.Prelude.{IsTaken, with_link, ArenaState, free_of, state_with, slots_shown, link_view, shown_link}
use Rattle.element_store.specs.declared.cell.SlotCell.{SlotCell}
use Rattle.element_store.proofs.Keeps.{kept_from, relink, taken_at}
use Rattle.element_store.proofs.Views.{set_link_view}
use Rattle.element_store.proofs.Slots.{held_from, state-is, shown-same, laid-out}
use Rattle.element_store.proofs.arena.Arena.set_next.Goals as goal

pub index_mut-cell-requires : goal.index_mut-cell-requires
index_mut-cell-requires c =
    let s = c.self.inside in
    let t = held_from s.key_len s.value_len s.limit s.cells.items s.first s.keys.items s.values.items c.args.slot
    (subst (λ (a : ArenaState). IsTaken a c.args.slot) (sym c.self.view_is) c.requires) in
    let w : c.args.slot < length s.cells.items = t.inside in
    search rules

pub invariant_of-self : goal.invariant_of-self
invariant_of-self c =
    let s = c.self.inside in
    let t = held_from s.key_len s.value_len s.limit s.cells.items s.first s.keys.items s.values.items c.args.slot
    (subst (λ (a : ArenaState). IsTaken a c.args.slot) (sym c.self.view_is) c.requires) in
    let at = slice_get_read s.cells.items (length s.cells.items) c.args.slot c.index_mut-cell.result.now refl t.inside c.index_mut-cell.ensures.value in (
      kept_from _ s.first s.last s.limit _ (relink s.cells.items s.first s.last s.limit c.args.slot
          c.index_mut-cell.result.now c.args.to c.self.invariant.0 t at),
      laid-out s.cells.items _ s.keys.items s.keys.items s.values.items s.values.items s.key_len s.value_len
          c.self.invariant.1 (length-set s.cells.items c.args.slot
          (record c.index_mut-cell.result.now { link = c.args.to })) refl refl,
    )

pub returns-clause-new : goal.returns-clause-new
returns-clause-new c =
    let s = c.self.inside in
    let t = held_from s.key_len s.value_len s.limit s.cells.items s.first s.keys.items s.values.items c.args.slot
    (subst (λ (a : ArenaState). IsTaken a c.args.slot) (sym c.self.view_is) c.requires) in
    let at = slice_get_read s.cells.items (length s.cells.items) c.args.slot c.index_mut-cell.result.now refl t.inside c.index_mut-cell.ensures.value in
    let was = (taken_at s.cells.items s.first s.last s.limit c.args.slot c.index_mut-cell.result.now c.self.invariant.0 t at).0 in
    state-is _ s.first s.last s.limit _ s.keys.items s.values.items s.key_len s.value_len
    (relink s.cells.items s.first s.last s.limit c.args.slot c.index_mut-cell.result.now c.args.to
    c.self.invariant.0 t at)
    ∙ (ap (λ (l : List SlotView). state_with l (slice_set s.cells.items c.args.slot
    (record c.index_mut-cell.result.now { link = c.args.to })) (free_of s.cells.items s.first) s.key_len
    s.value_len s.limit)
    (shown-same s.key_len s.value_len s.cells.items s.keys.items s.values.items c.args.slot
    c.index_mut-cell.result.now (record c.index_mut-cell.result.now { link = c.args.to }) at refl)
    ∙ (set_link_view (slots_shown s.key_len s.value_len s.cells.items s.keys.items s.values.items) s.cells.items
    s.key_len s.value_len s.limit c.args.slot c.index_mut-cell.result.now at (free_of s.cells.items s.first)
    c.args.to was
    ∙ ap (λ (a : ArenaState). with_link a c.args.slot c.args.to) c.self.view_is))

pub returns-clause-linked : goal.returns-clause-linked
returns-clause-linked c =
    let s = c.self.inside in
    let t = held_from s.key_len s.value_len s.limit s.cells.items s.first s.keys.items s.values.items c.args.slot
    (subst (λ (a : ArenaState). IsTaken a c.args.slot) (sym c.self.view_is) c.requires) in
    let at = slice_get_read s.cells.items (length s.cells.items) c.args.slot c.index_mut-cell.result.now refl t.inside c.index_mut-cell.ensures.value in
    let was = (taken_at s.cells.items s.first s.last s.limit c.args.slot c.index_mut-cell.result.now c.self.invariant.0 t at).0 in
    let d : SlotCell = record c.index_mut-cell.result.now { link = c.args.to } in
    ap option_flatten (get-map link_view _ c.args.slot d (get-set_same s.cells.items c.args.slot d t.inside)) ∙ ap (λ x. shown_link x c.args.to) was
