use Rattle.bpf_model.proofs.Prelude.{◌≡◌, ◌+◌, ◌*◌, ◌≤◌, length}
use Rattle.asm_source.specs.Tokens.{lines_of}
use Rattle.asm_source.specs.Maps.{meanings_of}
use Rattle.asm_source.specs.Plain.{prepended, lines_text}
use Rattle.asm_source.proofs.plain.text_of.Given as goal

abbrev pub invariant-loop-line : goal.invariant-loop-line
invariant-loop-line l = record {
  text : prepended l.out.items (lines_text (meanings_of l.given) l.number l.slot l.lines) ≡ lines_text (meanings_of l.given) 0 0 (lines_of l.source);
  lines : l.number + length l.lines ≤ length l.source;
  slots : l.slot ≤ 2 * l.number;
}

abbrev pub decreases-loop-line : goal.decreases-loop-line
decreases-loop-line l = length l.lines
