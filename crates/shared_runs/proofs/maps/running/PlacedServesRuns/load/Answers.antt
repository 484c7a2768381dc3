use Rattle.bpf_model.proofs.Prelude.{subst, arith}
use Rattle.map_table.proofs.Prelude.{TableShape, IsSized}
use Rattle.shared_runs.proofs.MapServing.{in_own_value}
use Rattle.shared_runs.proofs.maps.running.PlacedServesRuns.load.Goals as goal

pub overflow_add-words : goal.overflow_add-words
overflow_add-words c =
    let sized = subst (λ (k : TableShape). IsSized k) c.shape-shape.ensures.shape c.shape-shape.ensures.sized in
    let l = (in_own_value c.args.words.now.table.now c.args.words.now.first c.args.seat.now c.args.place c.requires.at sized c.requires.place
    c.is_readers.ensures.reader c.is_readers.ensures.shape).1 in omega (arith, l)

pub load-requires-clause-place : goal.load-requires-clause-place
load-requires-clause-place c =
    let sized = subst (λ (k : TableShape). IsSized k) c.shape-shape.ensures.shape c.shape-shape.ensures.sized in
    let l = (in_own_value c.args.words.now.table.now c.args.words.now.first c.args.seat.now c.args.place c.requires.at sized c.requires.place
    c.is_readers.ensures.reader c.is_readers.ensures.shape).0 in l
