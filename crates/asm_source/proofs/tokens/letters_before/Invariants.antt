use Rattle.bpf_model.proofs.Prelude.{◌≡◌, ◌+◌, drop, prefix_len}
use Rattle.asm_source.specs.Tokens.{is_letter}
use Rattle.asm_source.proofs.tokens.letters_before.Given as goal

abbrev pub invariant-loop-index : goal.invariant-loop-index
invariant-loop-index l = l.index + prefix_len is_letter (drop l.index l.line) ≡ prefix_len is_letter l.line
