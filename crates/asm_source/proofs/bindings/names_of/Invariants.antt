use Rattle.bpf_model.proofs.Prelude.{◌≡◌, ◌+◌, ◌*◌, ◌≤◌, length, Ok}
use Rattle.asm_source.specs.Names.{names_in, with_lines}
use Rattle.asm_source.proofs.bindings.names_of.Given as goal

abbrev pub invariant-loop-line : goal.invariant-loop-line
invariant-loop-line l = record {
  names : with_lines (Ok l.names) l.number l.slot l.lines ≡ names_in l.source;
  lines : l.number + length l.lines ≤ length l.source;
  slots : l.slot ≤ 2 * l.number;
}

abbrev pub decreases-loop-line : goal.decreases-loop-line
decreases-loop-line l = length l.lines
