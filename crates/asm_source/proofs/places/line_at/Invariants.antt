use Rattle.bpf_model.proofs.Prelude.{ℕ, ◌≡◌, ◌+◌, ◌*◌, ◌<◌, ◌≤◌, length, drop}
use Rattle.asm_source.specs.Tokens.{lines_of}
use Rattle.asm_source.specs.Labels.{BeginsAt, slots_above}
use Rattle.asm_source.proofs.places.line_at.Given as goal

abbrev pub invariant-loop-line : goal.invariant-loop-line
invariant-loop-line l = record {
  rest : drop l.number (lines_of l.source) ≡ l.lines;
  above : slots_above l.source l.number ≡ l.before;
  none : (n : ℕ) → n < l.number → BeginsAt l.source n l.slot → ⊥;
  lines : l.number + length l.lines ≤ length l.source;
  slots : l.before ≤ 2 * l.number;
}

abbrev pub decreases-loop-line : goal.decreases-loop-line
decreases-loop-line l = length l.lines
