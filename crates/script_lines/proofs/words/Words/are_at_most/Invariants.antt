use Rattle.bpf_model.proofs.Prelude.{◌≡◌, ◌+◌, length}
use Rattle.script_lines.proofs.words.Words.are_at_most.Given as goal

abbrev pub invariant-loop : goal.invariant-loop
invariant-loop l = length l.words + l.counter ≡ length l.self
