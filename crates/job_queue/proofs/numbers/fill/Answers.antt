use Rattle.std.proofs.Common.{sym, ap}
use Rattle.job_queue.specs.declared.numbers.PassView.{PassView}
use Rattle.job_queue.proofs.QueueRule.{puts, learns_room}
use Rattle.job_queue.proofs.numbers.fill.Goals as goal

pub push_as-requires-clause-rule : goal.push_as-requires-clause-rule
push_as-requires-clause-rule g c = let v = c.loop-number.invariant.1 in (
  puts _ _ _ _
      (ap (λ (z : PassView). z.puts) v) (sym (ap (λ (z : PassView). z.next) v)),
  learns_room _ _,
)
