use Rattle.bpf_model.proofs.Prelude.{◌<◌, arith, length, get_or, slice_get-get_or}
use Rattle.maps.proofs.Picking.{picked}
use Rattle.maps.proofs.registry.reap_first.Goals as goal

pub returns-in-Some-clause-some : goal.returns-in-Some-clause-some
returns-in-Some-clause-some c =
    let in_ : c.loop-number.number < length c.loop-number.maps = omega arith in
    let there = slice_get-get_or c.loop-number.maps c.loop-number.number c.index-maps-number.result in_ in
    picked c.args.maps.now c.loop-number.maps c.loop-number.number c.new-map.result
    (get_or c.loop-number.maps c.loop-number.number c.index-maps-number.result) c.reap.new.self c.in-Some.key
    c.in-Some.given c.loop-number.invariant.0 c.loop-number.invariant.1 there c.in-Some.ensures.some
    c.new-map.ensures
