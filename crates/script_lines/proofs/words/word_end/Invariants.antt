use Rattle.bpf_model.proofs.Prelude.{◌≢◌, ◌<◌, ℕ, slice_index}
use Rattle.script_lines.proofs.words.word_end.Given as goal

abbrev pub invariant-loop-index : goal.invariant-loop-index
invariant-loop-index l = (k : ℕ) → k < l.index → slice_index l.line k ≢ 32
