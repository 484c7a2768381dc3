use Rattle.bpf_model.proofs.Prelude.{◌≡◌, ◌∙◌, ℕ, ◌+◌, ◌*◌, ◌<◌, ◌≤◌, List, length, Some, sym, ap, subst, arith, get, MapView}
use Rattle.element_store.proofs.Prelude.{block, key_at, value_at}
use Rattle.model_laws.proofs.Prelude.{MAX_ENTRIES}
use Rattle.map_kinds.proofs.Arrays.{key-is, linked-in, room-at, value-at}
use Rattle.map_kinds.proofs.array_map.ArrayMapMapTable.element.Goals as goal

pub index_key-requires : goal.index_key-requires
index_key-requires c =
    let s = c.self.inside in
    let less : c.args.slot < s.shape.entries = linked-in s.shape s.values.items c.args.slot
    (subst (λ (v : MapView). get v.index (key_at v.slots c.args.slot) ≡ Some c.args.slot) (sym c.self.view_is) c.requires) in
    let few : s.shape.entries ≤ MAX_ENTRIES = c.self.invariant.valid.entries.1 in
    omega arith

pub block-requires : goal.block-requires
block-requires c =
    let s = c.self.inside in
    let less : c.args.slot < s.shape.entries = linked-in s.shape s.values.items c.args.slot
    (subst (λ (v : MapView). get v.index (key_at v.slots c.args.slot) ≡ Some c.args.slot) (sym c.self.view_is) c.requires) in
    subst (λ (l : List ℕ). c.args.slot * s.shape.value_len + s.shape.value_len ≤ length l) (sym c.deref.ensures.value)
    (room-at s.shape s.values.items c.self.invariant c.args.slot less)

pub returns-clause-key : goal.returns-clause-key
returns-clause-key c =
    let s = c.self.inside in
    let less : c.args.slot < s.shape.entries = linked-in s.shape s.values.items c.args.slot
    (subst (λ (v : MapView). get v.index (key_at v.slots c.args.slot) ≡ Some c.args.slot) (sym c.self.view_is) c.requires) in
    subst (λ (v : MapView). c.array_of-key.result.items ≡ key_at v.slots c.args.slot) c.self.view_is
    (c.array_of-key.ensures ∙ (c.index_key.ensures ∙ sym (key-is s.shape s.values.items c.args.slot less)))

pub returns-clause-value : goal.returns-clause-value
returns-clause-value c =
    let s = c.self.inside in
    let less : c.args.slot < s.shape.entries = linked-in s.shape s.values.items c.args.slot
    (subst (λ (v : MapView). get v.index (key_at v.slots c.args.slot) ≡ Some c.args.slot) (sym c.self.view_is) c.requires) in
    subst (λ (v : MapView). c.array_of-value.result.items ≡ value_at v.slots c.args.slot) c.self.view_is
    (c.array_of-value.ensures ∙ (c.block.ensures ∙ (ap (block s.shape.value_len c.args.slot) c.deref.ensures.value ∙
    sym (value-at s.shape s.values.items c.args.slot less))))
