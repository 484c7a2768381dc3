use Rattle.bpf_model.proofs.Prelude.{◌<◌, length}
use Rattle.read_table.proofs.writing.nearest.Given as goal

abbrev pub invariant-loop-at : goal.invariant-loop-at
invariant-loop-at l = l.best < length l.free
