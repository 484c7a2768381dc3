use Rattle.bpf_model.proofs.Prelude.{All}
use Rattle.table_bench.specs.Reads.{IsAtHome}
use Rattle.table_bench.proofs.apart.all_at_home.Given as goal

abbrev pub invariant-loop : goal.invariant-loop
invariant-loop g l = All (IsAtHome g.S.Measured.IsSet g.S.Measured.IsReader) l.all.items
