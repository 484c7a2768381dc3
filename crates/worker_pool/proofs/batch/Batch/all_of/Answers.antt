use Rattle.bpf_model.proofs.Prelude.{arith, refl}
use Rattle.worker_pool.proofs.Batches.{more_batches}
use Rattle.worker_pool.proofs.batch.Batch.all_of.Goals as goal

pub loop-next-preserved : goal.loop-next-preserved
loop-next-preserved c = record {
  within = omega arith;
  are = rw c.in_ok-push.ensures.items (more_batches _ _ _ _ c.loop-next.invariant.are refl);
  few = omega (arith, c.in_ok-push.ensures.len, c.loop-next.invariant.few, c.loop-next-test.true);
}
