use Rattle.bpf_model.proofs.Prelude.{◌≡◌, ◌∙◌, ◌<◌, sym, ap, rules, length, refl, slice_index, slice_get_read, get_or_from_slice_get, get-map}
use Rattle.element_store.proofs.Prelude.{ArenaState}
use Rattle.element_store.specs.declared.cell.SlotCell.{SlotCell}
use Rattle.element_store.proofs.Slots.{inside_from}
use Rattle.element_store.proofs.arena.Arena.tag.Goals as goal

pub index-requires : goal.index-requires
index-requires c =
    let s = c.self.inside in
    let w : c.args.slot < length s.cells.items = inside_from s.key_len s.value_len s.limit s.cells.items s.first
    s.keys.items s.values.items c.args.slot c.args.self.now c.self.view_is c.requires in
    search rules

pub returns : goal.returns
returns c =
    let s = c.self.inside in
    let w : c.args.slot < length s.cells.items = inside_from s.key_len s.value_len s.limit s.cells.items s.first
    s.keys.items s.values.items c.args.slot c.args.self.now c.self.view_is c.requires in
    let at = slice_get_read s.cells.items (length s.cells.items) c.args.slot c.index.result.now refl w c.index.ensures in
    let e : c.index.result.now.generation ≡ slice_index c.args.self.now.generations c.args.slot =
    sym (ap (λ (a : ArenaState). slice_index a.generations c.args.slot) (sym c.self.view_is)
    ∙ get_or_from_slice_get _ c.args.slot c.index.result.now.generation 0
    (get-map (λ (z : SlotCell). z.generation) s.cells.items c.args.slot c.index.result.now at)) in
    cc
