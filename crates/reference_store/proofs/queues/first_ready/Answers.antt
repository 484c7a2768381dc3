use Rattle.bpf_model.proofs.Prelude.{◌≡◌, Some, map, sym, ◌∙◌, arith, length, refl, slice_get, length-map, slice_get_read, get-map}
use Rattle.reference_store.specs.State.{queues_of}
use Rattle.reference_store.proofs.Queueing.{ready-here, ready-later, ready-past}
use Rattle.reference_store.proofs.queues.first_ready.Goals as goal
use Rattle.reference_store.proofs.queues.first_ready.Goals.{After-first_of}

there : (c : After-first_of) → slice_get (map queues_of c.args.queues.now) c.loop-k.k ≡ Some (queues_of c.index-queues-k.result)
there c = get-map queues_of c.args.queues.now c.loop-k.k c.index-queues-k.result
    (slice_get_read c.args.queues.now (length c.args.queues.now) c.loop-k.k c.index-queues-k.result refl
    c.loop-k-test.true c.index-queues-k.is)

pub returns-in-Some : goal.returns-in-Some
returns-in-Some c = sym (c.loop-k.invariant ∙ ready-here (map queues_of c.args.queues.now) c.loop-k.k
    (queues_of c.index-queues-k.result) c.in-Some.n (there (goal.at.returns-in-Some c).After-first_of)
    (sym c.first_of.ensures ∙ c.in-Some.is))

pub loop-k-preserved : goal.loop-k-preserved
loop-k-preserved c = c.loop-k.invariant ∙ ready-later (map queues_of c.args.queues.now) c.loop-k.k
    (queues_of c.index-queues-k.result) (there (goal.at.loop-k-preserved c).After-first_of)
    (sym c.first_of.ensures ∙ c.in_default.is)

pub returns : goal.returns
returns c = sym (c.loop-k.invariant ∙ ready-past (map queues_of c.args.queues.now) c.loop-k.k
    (omega (arith, length-map c.args.queues.now queues_of, c.loop-k-test.false)))
