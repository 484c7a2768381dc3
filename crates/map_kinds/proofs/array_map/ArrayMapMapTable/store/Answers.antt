use Rattle.bpf_model.proofs.Prelude.{◌≡◌, ◌∙◌, ℕ, ◌<◌, List, length, sym, ap, subst, byte_count, with_bytes, MapView, length-with_bytes}
use Rattle.element_store.proofs.Prelude.{block, value_at}
use Rattle.model_laws.proofs.Prelude.{written}
use Rattle.element_store.proofs.Slots.{block-full}
use Rattle.map_kinds.specs.Arrays.{array_view, IsArrayMap}
use Rattle.map_kinds.specs.Shown.{IsOccupied}
use Rattle.map_kinds.proofs.Arrays.{occupied-in, room-at, value-at, written-view, written-kept}
use Rattle.map_kinds.proofs.array_map.ArrayMapMapTable.store.Goals as goal

pub write_inside-requires-clause-room : goal.write_inside-requires-clause-room
write_inside-requires-clause-room c =
    let s = c.self.inside in
    let less : c.args.slot < s.shape.entries = occupied-in s.shape s.values.items c.args.slot
    (subst (λ (v : MapView). IsOccupied v c.args.slot) (sym c.self.view_is) c.requires.occupied) in
    room-at s.shape s.values.items c.self.invariant c.args.slot less

pub invariant_of-self : goal.invariant_of-self
invariant_of-self c =
    let s = c.self.inside in
    let less : c.args.slot < s.shape.entries = occupied-in s.shape s.values.items c.args.slot
    (subst (λ (v : MapView). IsOccupied v c.args.slot) (sym c.self.view_is) c.requires.occupied) in
    let old : List ℕ = block s.shape.value_len c.args.slot s.values.items in
    let new : List ℕ = with_bytes c.args.offset (byte_count c.args.width) c.args.number old in
    let long : length new ≡ s.shape.value_len = length-with_bytes c.args.offset (byte_count c.args.width)
    c.args.number old ∙ block-full s.shape.value_len c.args.slot s.values.items
    (room-at s.shape s.values.items c.self.invariant c.args.slot less) in
    subst (IsArrayMap s.shape) (sym c.write_inside.ensures) (written-kept s.shape s.values.items c.self.invariant c.args.slot new less long)

pub returns : goal.returns
returns c =
    let s = c.self.inside in
    let less : c.args.slot < s.shape.entries = occupied-in s.shape s.values.items c.args.slot
    (subst (λ (v : MapView). IsOccupied v c.args.slot) (sym c.self.view_is) c.requires.occupied) in
    let old : List ℕ = block s.shape.value_len c.args.slot s.values.items in
    let new : List ℕ = with_bytes c.args.offset (byte_count c.args.width) c.args.number old in
    let long : length new ≡ s.shape.value_len = length-with_bytes c.args.offset (byte_count c.args.width)
    c.args.number old ∙ block-full s.shape.value_len c.args.slot s.values.items
    (room-at s.shape s.values.items c.self.invariant c.args.slot less) in
    ap (array_view s.shape) c.write_inside.ensures
    ∙ (written-view s.shape s.values.items c.self.invariant c.args.slot new less long
    ∙ (ap (λ (l : List ℕ). written (array_view s.shape s.values.items) c.args.slot
    (with_bytes c.args.offset (byte_count c.args.width) c.args.number l))
    (sym (value-at s.shape s.values.items c.args.slot less))
    ∙ ap (λ (v : MapView). written v c.args.slot (with_bytes c.args.offset (byte_count c.args.width) c.args.number
    (value_at v.slots c.args.slot))) c.self.view_is))
