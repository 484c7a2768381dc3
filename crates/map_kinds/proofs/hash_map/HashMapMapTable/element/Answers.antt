use Rattle.bpf_model.proofs.Prelude.{◌≡◌, Some, sym, subst, get, MapView}
use Rattle.element_store.proofs.Prelude.{key_at}
use Rattle.map_kinds.proofs.Parting.{linked-stands, standing-taken}
use Rattle.map_kinds.proofs.hash_map.HashMapMapTable.element.Goals as goal

pub key-requires : goal.key-requires
key-requires g c =
    let linked = subst (λ (v : MapView). get v.index (key_at v.slots c.args.slot) ≡ Some c.args.slot) (sym c.self.view_is) c.requires in
    (standing-taken c.self.inside.parts c.args.slot c.is_parted.ensures (linked-stands c.self.inside.parts c.args.slot linked)).inside

pub value-requires : goal.value-requires
value-requires g c =
    let linked = subst (λ (v : MapView). get v.index (key_at v.slots c.args.slot) ≡ Some c.args.slot) (sym c.self.view_is) c.requires in
    linked-stands c.self.inside.parts c.args.slot linked
