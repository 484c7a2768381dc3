use Rattle.table_bench.proofs.measure.repeat_calls.Given as goal

abbrev pub invariant-loop : goal.invariant-loop
invariant-loop g l = g.S.Measured.IsReader l.table l.runner.reader
