use Rattle.bpf_model.proofs.Prelude.{◌≡◌, ◌+◌, ◌%◌, arith, length, refl, subst, ◌∙◌, List, Some, slice_get, mod-lt, slice_get_read}
use Rattle.verifier.proofs.Prelude.{Checked}
use Rattle.worker_pool.specs.TrailLemmas.{later_again, later_same}
use Rattle.worker_pool.specs.Trails.{IsServedJob}
use Rattle.worker_pool.proofs.Batches.{more_outcomes, no_outcomes}
use Rattle.worker_pool.proofs.printing.serve_turns.Goals as goal

pub loop-index-init : goal.loop-index-init
loop-index-init g c = record {
  held_is = c.hold-held.ensures;
  later = later_same c.args.worker.now;
  room = omega (arith, c.in_ok-outcomes.ensures.capacity);
  are = rw c.in_ok-outcomes.ensures.items (no_outcomes c.args.shared.now c.args.jobs.now c.args.batch.now.first);
}

pub loop-index-preserved : goal.loop-index-preserved
loop-index-preserved g c =
    let was = c.loop-index.invariant in
    let served = c.serve_held-outcome.ensures in
    let report = c.serve_held-outcome.result in
    let job = c.index-jobs-batch.result in
    let jobs = c.args.jobs.now in
    let at = (c.args.batch.now.first + c.loop-index.index) % length jobs in
    let taken : slice_get jobs at ≡ Some job = slice_get_read jobs (length jobs) at job refl (mod-lt _ c.requires.some) c.index-jobs-batch.is in
    let right = subst (λ (p : List Checked). IsServedJob p c.loop-index.worker c.serve_held-outcome.new.worker job report) was.held_is served.fits in
    record {
      held_is = served.programs ∙ was.held_is;
      later = later_again c.args.worker.now c.loop-index.worker c.serve_held-outcome.new.worker was.later served.later;
      room = omega (arith, c.push_reserved.ensures.capacity, was.room);
      are = rw c.push_reserved.ensures.items (more_outcomes c.args.shared.now c.args.jobs.now c.args.batch.now.first c.loop-index.index
          c.loop-index.outcomes.items job c.loop-index.worker c.serve_held-outcome.new.worker report was.are taken right);
    }
