use Rattle.bpf_model.proofs.Prelude.{◌≡◌, ◌≤◌, ◌-◌, length}
use Rattle.worker_pool.specs.Batches.{HasWritten}
use Rattle.worker_pool.proofs.repeated.serve_blocks.Given as goal

-- the lines of the jobs before the first of this block are written
abbrev pub invariant-loop-first : goal.invariant-loop-first
invariant-loop-first g l = record {
  workers : length l.workers ≡ length l.fn.workers;
  within : l.first ≤ l.count;
  written : HasWritten l.shared l.jobs l.first (g.W.Write.contents l.fn.out) (g.W.Write.contents l.out);
}

abbrev pub decreases-loop-first : goal.decreases-loop-first
decreases-loop-first g l = l.count - l.first
