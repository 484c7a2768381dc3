use Rattle.bpf_model.proofs.Prelude.{◌≢◌, ℕ, ◌<◌, slice_index_or}
use Rattle.read_table.proofs.writing.position_of.Given as goal

abbrev pub invariant-loop-at : goal.invariant-loop-at
invariant-loop-at l = (j : ℕ) → j < l.at → slice_index_or l.list j 0 ≢ l.slot
