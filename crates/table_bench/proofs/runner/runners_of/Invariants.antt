use Rattle.bpf_model.proofs.Prelude.{All}
use Rattle.table_bench.specs.declared.runner.Runner.{Runner}
use Rattle.table_bench.proofs.runner.runners_of.Given as goal

abbrev pub invariant-loop-reader : goal.invariant-loop-reader
invariant-loop-reader g l =
    All (g.S.Measured.IsReader l.table) l.reader-iterator.rest.items
    × All (λ (r : Runner _). g.S.Measured.IsReader l.table r.reader) l.runners.items
