use Rattle.bpf_model.proofs.Prelude.{◌∙◌, ◌+◌, ◌*◌, ◌<◌, ◌≤◌, ℕ, List, sym, ap, subst, rules, length, refl, slice_get_read}
use Rattle.element_store.proofs.Prelude.{ArenaState, key_at, block}
use Rattle.element_store.proofs.BlockLaws.{room}
use Rattle.element_store.proofs.Slots.{inside_from, shown-key, shown-unused, shown-used}
use Rattle.element_store.proofs.arena.Arena.key.Goals as goal

pub index-requires : goal.index-requires
index-requires c =
    let s = c.self.inside in
    let w : c.args.slot < length s.cells.items = inside_from s.key_len s.value_len s.limit s.cells.items s.first
    s.keys.items s.values.items c.args.slot c.args.self.now c.self.view_is c.requires in
    search rules

pub block-requires : goal.block-requires
block-requires c =
    let s = c.self.inside in
    let w : c.args.slot < length s.cells.items = inside_from s.key_len s.value_len s.limit s.cells.items s.first
    s.keys.items s.values.items c.args.slot c.args.self.now c.self.view_is c.requires in
    let r : c.args.slot * s.key_len + s.key_len ≤ length s.keys.items =
    subst (λ n. c.args.slot * s.key_len + s.key_len ≤ n) (sym c.self.invariant.1.key_room)
    (room s.key_len c.args.slot (length s.cells.items) w) in
    subst (λ (l : List ℕ). c.args.slot * s.key_len + s.key_len ≤ length l) (sym c.deref-else-index-eq0.ensures.value) r

pub returns-then-index-eq0 : goal.returns-then-index-eq0
returns-then-index-eq0 c =
    let s = c.self.inside in
    let w : c.args.slot < length s.cells.items = inside_from s.key_len s.value_len s.limit s.cells.items s.first
    s.keys.items s.values.items c.args.slot c.args.self.now c.self.view_is c.requires in
    let at = slice_get_read s.cells.items (length s.cells.items) c.args.slot c.index.result.now refl w c.index.ensures in
    sym (ap (λ (a : ArenaState). key_at a.slots c.args.slot) (sym c.self.view_is)
    ∙ (shown-key s.key_len s.value_len s.cells.items s.keys.items s.values.items c.args.slot c.index.result.now at
    ∙ shown-unused c.index.result.now.uses (block s.key_len c.args.slot s.keys.items) c.if-index-eq0.true))

pub returns-else-index-eq0 : goal.returns-else-index-eq0
returns-else-index-eq0 c =
    let s = c.self.inside in
    let w : c.args.slot < length s.cells.items = inside_from s.key_len s.value_len s.limit s.cells.items s.first
    s.keys.items s.values.items c.args.slot c.args.self.now c.self.view_is c.requires in
    let at = slice_get_read s.cells.items (length s.cells.items) c.args.slot c.index.result.now refl w c.index.ensures in
    c.block.ensures ∙ (ap (block s.key_len c.args.slot) c.deref-else-index-eq0.ensures.value
    ∙ sym (ap (λ (a : ArenaState). key_at a.slots c.args.slot) (sym c.self.view_is)
    ∙ (shown-key s.key_len s.value_len s.cells.items s.keys.items s.values.items c.args.slot c.index.result.now at
    ∙ shown-used c.index.result.now.uses (block s.key_len c.args.slot s.keys.items) c.if-index-eq0.false)))
