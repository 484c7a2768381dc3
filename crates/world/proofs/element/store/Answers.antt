use Rattle.bpf_model.proofs.Prelude.{◌≡◌, ◌∙◌, sym, ap, Some, slice_get, byte_count}
use Rattle.world_laws.proofs.Prelude.{location_of, word_offset}
use Rattle.world.proofs.Occupied.{reached, occupied}
use Rattle.world.proofs.element.store.Goals as goal

pub store-requires-clause-occupied : goal.store-requires-clause-occupied
store-requires-clause-occupied c =
    let h = reached c.args.maps.now.maps (byte_count c.args.width) c.args.offset (location_of c.args.address)
    c.map_slot_of-reached.result.map c.map_slot_of-reached.result.slot (word_offset c.args.address) c.requires
    c.map_slot_of-reached.ensures in
    let there : slice_get c.args.maps.now.maps c.map_slot_of-reached.result.map ≡ Some c.map_mut-map.result.now =
    ap (slice_get c.args.maps.now.maps) (sym c.new.ensures) ∙ c.map_mut-map.ensures.value in
    occupied c.args.maps.now.maps (byte_count c.args.width) c.map_slot_of-reached.result.map
    c.map_slot_of-reached.result.slot _ c.map_mut-map.result.now h there
