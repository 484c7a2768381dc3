use Rattle.bpf_model.proofs.Prelude.{◌≡◌, ◌∙◌, sym, ap, Some, slice_get, option_copied, byte_count}
use Rattle.world_laws.proofs.Prelude.{location_of, word_offset}
use Rattle.world.proofs.Occupied.{reached, occupied}
use Rattle.world.proofs.element.load.Goals as goal

pub load-requires-clause-occupied : goal.load-requires-clause-occupied
load-requires-clause-occupied c =
    let h = reached c.args.maps.now.maps (byte_count c.args.width) c.args.offset (location_of c.args.address)
    c.map_slot_of-reached.result.map c.map_slot_of-reached.result.slot (word_offset c.args.address) c.requires
    c.map_slot_of-reached.ensures in
    let there : slice_get c.args.maps.now.maps c.map_slot_of-reached.result.map ≡ Some c.in-Some.map.now =
    ap (slice_get c.args.maps.now.maps) (sym c.new.ensures) ∙ sym c.map.ensures.value ∙
    ap option_copied c.in-Some.is in
    occupied c.args.maps.now.maps (byte_count c.args.width) c.map_slot_of-reached.result.map c.map_slot_of-reached.result.slot _ c.in-Some.map.now h there
