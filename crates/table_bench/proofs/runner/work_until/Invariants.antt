use Rattle.table_bench.proofs.runner.work_until.Given as goal

abbrev pub invariant-loop-batches : goal.invariant-loop-batches
invariant-loop-batches g l = g.S.Measured.IsReader l.table l.runner.reader
