use Rattle.bpf_model.proofs.Prelude.{length}
use Rattle.classic_program.proofs.Records.{IsReading}
use Rattle.classic_program.proofs.reading.read_filter_array.Given as goal

abbrev pub invariant-loop-rest : goal.invariant-loop-rest
invariant-loop-rest l = IsReading l.fn.bytes l.rest l.filters.items

abbrev pub decreases-loop-rest : goal.decreases-loop-rest
decreases-loop-rest l = length l.rest
