use Rattle.bpf_model.proofs.Prelude.{◌≡◌, length}
use Rattle.asm_source.specs.Tokens.{tokens_of}
use Rattle.asm_source.proofs.tokens.without_blanks.Given as goal

abbrev pub invariant-loop-rest : goal.invariant-loop-rest
invariant-loop-rest l = tokens_of l.rest ≡ tokens_of l.line

abbrev pub decreases-loop-rest : goal.decreases-loop-rest
decreases-loop-rest l = length l.rest
