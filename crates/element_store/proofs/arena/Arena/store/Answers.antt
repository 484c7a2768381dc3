use Rattle.bpf_model.proofs.Prelude.{◌≡◌, ◌∙◌, ◌+◌, ◌*◌, ◌<◌, ◌≤◌, ℕ, List, sym, ap, subst, length, byte_count, with_bytes, length-with_bytes}
use Rattle.element_store.proofs.Prelude.{with_slot_value, block, arena_state_of}
use Rattle.element_store.proofs.BlockLaws.{room}
use Rattle.element_store.proofs.Slots.{inside_from, block-full, value_is, state-stored}
use Rattle.element_store.proofs.arena.Arena.store.Goals as goal

pub write_inside-requires-clause-room : goal.write_inside-requires-clause-room
write_inside-requires-clause-room c =
    let s = c.self.inside in
    let w : c.args.slot < length s.cells.items = inside_from s.key_len s.value_len s.limit s.cells.items s.first
    s.keys.items s.values.items c.args.slot c.args.self.now c.self.view_is c.requires.taken.inside in
    let r : c.args.slot * s.value_len + s.value_len ≤ length s.values.items =
    subst (λ n. c.args.slot * s.value_len + s.value_len ≤ n) (sym c.self.invariant.1.value_room)
    (room s.value_len c.args.slot (length s.cells.items) w) in
    r

pub returns : goal.returns
returns c =
    let s = c.self.inside in
    let w : c.args.slot < length s.cells.items = inside_from s.key_len s.value_len s.limit s.cells.items s.first
    s.keys.items s.values.items c.args.slot c.args.self.now c.self.view_is c.requires.taken.inside in
    let r : c.args.slot * s.value_len + s.value_len ≤ length s.values.items =
    subst (λ n. c.args.slot * s.value_len + s.value_len ≤ n) (sym c.self.invariant.1.value_room)
    (room s.value_len c.args.slot (length s.cells.items) w) in
    let long : length (with_bytes c.args.offset (byte_count c.args.width) c.args.number
    (block s.value_len c.args.slot s.values.items)) ≡ s.value_len =
    length-with_bytes c.args.offset (byte_count c.args.width) c.args.number
    (block s.value_len c.args.slot s.values.items) ∙ block-full s.value_len c.args.slot s.values.items r in
    ap (λ (l : List ℕ). arena_state_of s.cells.items s.first s.keys.items l s.key_len s.value_len s.limit) c.write_inside.ensures
    ∙ (state-stored s.key_len s.value_len s.limit s.cells.items s.first s.last s.keys.items s.values.items c.args.slot
    c.args.self.now (with_bytes c.args.offset (byte_count c.args.width) c.args.number
    (block s.value_len c.args.slot s.values.items)) c.self.view_is c.self.invariant.0 c.self.invariant.1
    c.requires.taken long
    ∙ ap (λ (l : List ℕ). with_slot_value c.args.self.now c.args.slot (with_bytes c.args.offset (byte_count c.args.width) c.args.number l))
    (sym (value_is s.key_len s.value_len s.limit s.cells.items s.first s.last s.keys.items s.values.items c.args.slot
    c.args.self.now c.self.view_is c.self.invariant.0 c.requires.taken)))
