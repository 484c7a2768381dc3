use Rattle.bpf_model.proofs.Prelude.{◌≡◌, ◌++◌, length}
use Rattle.std.specs.Prelude.{flat_map}
use Rattle.asm_source.specs.Tokens.{tokens_of}
use Rattle.asm_source.specs.Head.{line_of_tokens, head_text}
use Rattle.asm_source.proofs.head.head_text.Given as goal

abbrev pub invariant-loop-line : goal.invariant-loop-line
invariant-loop-line l = l.out.items ++ flat_map (λ line. line_of_tokens (tokens_of line)) l.lines ≡ head_text l.head

abbrev pub decreases-loop-line : goal.decreases-loop-line
decreases-loop-line l = length l.lines
