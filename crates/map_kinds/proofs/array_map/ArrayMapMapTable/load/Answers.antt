use Rattle.bpf_model.proofs.Prelude.{◌≡◌, ◌∙◌, ℕ, ◌+◌, ◌*◌, ◌<◌, ◌≤◌, List, length, Some, sym, ap, subst, slice_get, byte_count, number_at, MapView}
use Rattle.element_store.proofs.Prelude.{block, value_at}
use Rattle.element_store.proofs.Slots.{block-full}
use Rattle.map_kinds.specs.Shown.{IsOccupied}
use Rattle.map_kinds.proofs.Arrays.{occupied-in, room-at, value-at}
use Rattle.map_kinds.proofs.array_map.ArrayMapMapTable.load.Goals as goal

pub block-value-requires : goal.block-value-requires
block-value-requires c =
    let s = c.self.inside in
    let less : c.args.slot < s.shape.entries = occupied-in s.shape s.values.items c.args.slot
    (subst (λ (v : MapView). IsOccupied v c.args.slot) (sym c.self.view_is) c.requires.occupied) in
    subst (λ (l : List ℕ). c.args.slot * s.shape.value_len + s.shape.value_len ≤ length l) (sym c.deref.ensures.value)
    (room-at s.shape s.values.items c.self.invariant c.args.slot less)

pub number_of-requires : goal.number_of-requires
number_of-requires c =
    let s = c.self.inside in
    let less : c.args.slot < s.shape.entries = occupied-in s.shape s.values.items c.args.slot
    (subst (λ (v : MapView). IsOccupied v c.args.slot) (sym c.self.view_is) c.requires.occupied) in
    let long : length c.block-value.result.now ≡ c.args.self.now.shape.value_len =
    ap (λ (l : List ℕ). length l) (c.block-value.ensures ∙ ap (block s.shape.value_len c.args.slot) c.deref.ensures.value)
    ∙ (block-full s.shape.value_len c.args.slot s.values.items (room-at s.shape s.values.items c.self.invariant c.args.slot less)
    ∙ ap (λ (v : MapView). v.shape.value_len) c.self.view_is) in
    subst (λ n. c.args.offset + byte_count c.args.width ≤ n) (sym long) c.requires.inside

pub returns : goal.returns
returns c =
    let s = c.self.inside in
    let less : c.args.slot < s.shape.entries = occupied-in s.shape s.values.items c.args.slot
    (subst (λ (v : MapView). IsOccupied v c.args.slot) (sym c.self.view_is) c.requires.occupied) in
    let bytes =
    c.block-value.ensures
    ∙ (ap (block s.shape.value_len c.args.slot) c.deref.ensures.value
    ∙ (sym (value-at s.shape s.values.items c.args.slot less)
    ∙ ap (λ (v : MapView). value_at v.slots c.args.slot) c.self.view_is)) in
    subst (λ (l : List ℕ). number_at (slice_get l) c.args.offset (byte_count c.args.width) ≡ Some c.number_of.result) bytes c.number_of.ensures
