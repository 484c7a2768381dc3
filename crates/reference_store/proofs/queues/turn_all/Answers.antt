use Rattle.bpf_model.proofs.Prelude.{◌<◌, length, map, sym, ap, ◌∙◌, arith, refl, length-map, turned, slice_get_read}
use Rattle.reference_store.specs.State.{queues_of}
use Rattle.reference_store.proofs.Queueing.{all-turned, changed-one}
use Rattle.reference_store.proofs.queues.turn_all.Goals as goal

pub loop-k-preserved : goal.loop-k-preserved
loop-k-preserved c =
    let xs = c.loop-k.queues in
    let k = c.loop-k.k in
    let x = c.index-queues-k.result in
    let bound : k < length xs = omega (arith, c.loop-k-test.true, c.loop-k.auto.queues) in
    let done = c.in_ok-turn.ensures ∙ ap (λ q. turned (queues_of q)) (sym c.index-queues-k.is) in
    changed-one (λ _ q. turned q) c.args.queues.now xs k x c.turn.new.queues c.loop-k.invariant
    (slice_get_read xs (length xs) k x refl bound c.index-queues-k.is) done

pub returns : goal.returns
returns c =
    let items = c.args.queues.now in
    c.loop-k.invariant ∙ all-turned (map queues_of items) c.loop-k.k 0 (omega (arith, length-map items queues_of, c.loop-k-test.false))
