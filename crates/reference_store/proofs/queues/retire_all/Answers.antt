use Rattle.bpf_model.proofs.Prelude.{◌<◌, length, map, sym, ap, ◌∙◌, arith, refl, length-map, retired_in, slice_get_read}
use Rattle.reference_store.specs.State.{queues_of, elements_of}
use Rattle.reference_store.proofs.Queueing.{all-retired, changed-one}
use Rattle.reference_store.proofs.queues.retire_all.Goals as goal

pub loop-k-preserved : goal.loop-k-preserved
loop-k-preserved c = λ olds h.
    let xs = c.loop-k.queues in
    let k = c.loop-k.k in
    let x = c.index-queues-k.result in
    let news = elements_of c.args.elements.now in
    let bound : k < length xs = omega (arith, c.loop-k-test.true, c.loop-k.auto.queues) in
    let done = c.in_ok-retire.ensures olds h ∙ ap (λ q. retired_in k olds news (queues_of q)) (sym c.index-queues-k.is) in
    changed-one (λ j. retired_in j olds news) c.args.queues.now xs k x c.retire.new.queues (c.loop-k.invariant olds h)
    (slice_get_read xs (length xs) k x refl bound c.index-queues-k.is) done

pub returns : goal.returns
returns c = λ olds h.
    let items = c.args.queues.now in
    c.loop-k.invariant olds h ∙ all-retired olds (elements_of c.args.elements.now) (map queues_of items) c.loop-k.k 0
    (omega (arith, length-map items queues_of, c.loop-k-test.false))
