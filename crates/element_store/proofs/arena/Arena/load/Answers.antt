use Rattle.bpf_model.proofs.Prelude.{◌≡◌, ◌∙◌, ◌+◌, ◌*◌, ◌<◌, ◌≤◌, ℕ, List, Some, sym, ap, subst, length, slice_get, byte_count, number_at}
use Rattle.element_store.proofs.Prelude.{ArenaState, block}
use Rattle.element_store.proofs.BlockLaws.{room}
use Rattle.element_store.proofs.Slots.{inside_from, block-full, value_is}
use Rattle.element_store.proofs.arena.Arena.load.Goals as goal

pub block-value-requires : goal.block-value-requires
block-value-requires c =
    let s = c.self.inside in
    let w : c.args.slot < length s.cells.items = inside_from s.key_len s.value_len s.limit s.cells.items s.first
    s.keys.items s.values.items c.args.slot c.args.self.now c.self.view_is c.requires.taken.inside in
    let r : c.args.slot * s.value_len + s.value_len ≤ length s.values.items =
    subst (λ n. c.args.slot * s.value_len + s.value_len ≤ n) (sym c.self.invariant.1.value_room)
    (room s.value_len c.args.slot (length s.cells.items) w) in
    subst (λ (l : List ℕ). c.args.slot * s.value_len + s.value_len ≤ length l) (sym c.deref.ensures.value) r

pub number_of-requires : goal.number_of-requires
number_of-requires c =
    let s = c.self.inside in
    let w : c.args.slot < length s.cells.items = inside_from s.key_len s.value_len s.limit s.cells.items s.first
    s.keys.items s.values.items c.args.slot c.args.self.now c.self.view_is c.requires.taken.inside in
    let r : c.args.slot * s.value_len + s.value_len ≤ length s.values.items =
    subst (λ n. c.args.slot * s.value_len + s.value_len ≤ n) (sym c.self.invariant.1.value_room)
    (room s.value_len c.args.slot (length s.cells.items) w) in
    let e : length c.block-value.result.now ≡ c.args.self.now.value_len =
    ap (λ (l : List ℕ). length l) (c.block-value.ensures ∙ ap (block s.value_len c.args.slot) c.deref.ensures.value)
    ∙ (block-full s.value_len c.args.slot s.values.items r ∙ ap (λ (a : ArenaState). a.value_len) c.self.view_is) in
    subst (λ n. c.args.offset + byte_count c.args.width ≤ n) (sym e) c.requires.inside

pub returns : goal.returns
returns c =
    let s = c.self.inside in
    let e = c.block-value.ensures ∙ (ap (block s.value_len c.args.slot) c.deref.ensures.value ∙
    sym (value_is s.key_len s.value_len s.limit s.cells.items s.first s.last s.keys.items s.values.items
    c.args.slot c.args.self.now c.self.view_is c.self.invariant.0 c.requires.taken)) in
    subst (λ (l : List ℕ). number_at (slice_get l) c.args.offset (byte_count c.args.width) ≡ Some c.number_of.result) e c.number_of.ensures
