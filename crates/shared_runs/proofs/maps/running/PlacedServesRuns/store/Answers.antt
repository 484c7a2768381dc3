use Rattle.bpf_model.proofs.Prelude.{subst, arith}
use Rattle.map_table.proofs.Prelude.{TableShape, IsSized}
use Rattle.shared_runs.proofs.MapServing.{in_own_value}
use Rattle.shared_runs.proofs.maps.running.PlacedServesRuns.store.Goals as goal

pub overflow_add-words : goal.overflow_add-words
overflow_add-words c =
    let sized = subst (λ (k : TableShape). IsSized k) c.shape-shape.ensures.shape c.shape-shape.ensures.sized in
    let l = (in_own_value c.args.words.now.table.now c.args.words.now.first c.args.seat.now c.args.place c.requires.at sized c.requires.place
    c.is_readers.ensures.reader c.is_readers.ensures.shape).1 in omega (arith, l)

pub store-requires-clause-value : goal.store-requires-clause-value
store-requires-clause-value c = let first = c.requires.at.2 in omega (arith, first)

pub store-requires-clause-place : goal.store-requires-clause-place
store-requires-clause-place c =
    let first = c.requires.at.2 in
    let place = c.requires.place in
    omega (arith, first, place)
