use Rattle.bpf_model.proofs.Prelude.{ℕ, List, drop, Option}
use Rattle.worker_pool.specs.Batches.{AreBatches, HasWritten}
use Rattle.worker_pool.proofs.printing.Printing.write_texts.Given as goal

abbrev pub invariant-loop-index : goal.invariant-loop-index
invariant-loop-index g l = record {
  kept : (first end : ℕ) (old : Option (List ℕ)) → AreBatches first l.batches end →
      HasWritten l.self.shared.now l.self.jobs.now first old (g.W.Write.contents l.fn.out) →
      (here : ℕ) × AreBatches here (drop l.index l.batches) end
      × HasWritten l.self.shared.now l.self.jobs.now here old (g.W.Write.contents l.out);
}
