use Rattle.bpf_model.proofs.Prelude.{◌≡◌, ◌++◌, length}
use Rattle.asm_source.specs.LineEnds.{with_feeds}
use Rattle.asm_source.proofs.line_ends.fed_text.Given as goal

abbrev pub invariant-loop-rest : goal.invariant-loop-rest
invariant-loop-rest l = l.fed.items ++ with_feeds l.rest ≡ with_feeds l.text

abbrev pub decreases-loop-rest : goal.decreases-loop-rest
decreases-loop-rest l = length l.rest
