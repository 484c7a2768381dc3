use Rattle.bpf_model.proofs.Prelude.{◌<◌, length, refl, arith}
use Rattle.classic_program.proofs.Records.{reading-next}
use Rattle.classic_program.proofs.reading.read_filter_array.Goals as goal

pub loop-rest-preserved : goal.loop-rest-preserved
loop-rest-preserved c =
    let e = c.is_empty.ensures in
    let f = c.loop-rest-test.true in
    let some : 0 < length c.loop-rest.rest.now = grind arith in
    reading-next c.args.bytes.now c.loop-rest.rest.now _ c.loop-rest.filters.items _ c.filter_from.result c.loop-rest.invariant some c.filter_from.ensures
    c.in_ok-extend_from_slice.ensures.items refl
