use Rattle.bpf_model.proofs.Prelude.{◌≡◌, ◌+◌, ◌-◌, ◌^◌, IfOk}
use Rattle.bpf_model.specs.declared.event.Event.TheVariants.{Step}
use Rattle.shared_books.specs.Receipts.{IsMachineAnswer}
use Rattle.worker_pool.specs.Trails.{IsLater, IsByWorker, IsStretchBy, AreNext}
use Rattle.worker_pool.proofs.Moving.{moves}
use Rattle.worker_pool.proofs.pooled.step_to_end.Given as goal

-- the receipt is that of the worker's last step of this run, and the moves are those right before it
abbrev pub invariant-loop-moves : goal.invariant-loop-moves
invariant-loop-moves g l = record {
  programs : l.held ≡ l.fn.held;
  event : l.step.event ≡ Step l.fn.run;
  answered : IfOk l.step.reply (IsMachineAnswer (Step l.fn.run));
  count : l.step.made ≡ l.worker.made;
  later : IsLater l.fn.worker l.worker;
  by : IsByWorker l.fn.worker l.worker l.step;
  moves : IsStretchBy l.fn.worker l.worker l.moves;
  run : l.moves.run ≡ l.fn.run;
  next : AreNext l.fn.worker.made l.moves l.step;
}

-- the entries that the worker can still make, twice, and one more where the last step was a move
abbrev pub decreases-loop-moves : goal.decreases-loop-moves
decreases-loop-moves g l = (2 ^ 64 - l.worker.made) + (2 ^ 64 - l.worker.made) + moves l.step.reply
