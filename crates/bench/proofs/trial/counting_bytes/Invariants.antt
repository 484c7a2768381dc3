use Rattle.bench.proofs.Bytes.{Counts}
use Rattle.bench.proofs.trial.counting_bytes.Given as goal

abbrev pub invariant-loop-i : goal.invariant-loop-i
invariant-loop-i l = Counts l.bytes.items l.i
