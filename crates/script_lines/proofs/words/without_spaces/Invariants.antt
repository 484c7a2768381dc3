use Rattle.bpf_model.proofs.Prelude.{◌≡◌, length}
use Rattle.script_lines.specs.Words.{words_of}
use Rattle.script_lines.proofs.words.without_spaces.Given as goal

abbrev pub invariant-loop-rest : goal.invariant-loop-rest
invariant-loop-rest l = words_of l.rest ≡ words_of l.line

abbrev pub decreases-loop-rest : goal.decreases-loop-rest
decreases-loop-rest l = length l.rest
