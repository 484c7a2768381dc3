use Rattle.table_bench.proofs.crew.write_until.Given as goal

abbrev pub invariant-loop-round : goal.invariant-loop-round
invariant-loop-round g l = g.S.Measured.IsWriter l.table l.writer
