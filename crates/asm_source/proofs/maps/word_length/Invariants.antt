use Rattle.bpf_model.proofs.Prelude.{◌≡◌, ◌+◌, ◌==◌, not, drop, prefix_len}
use Rattle.asm_source.proofs.maps.word_length.Given as goal

abbrev pub invariant-loop-index : goal.invariant-loop-index
invariant-loop-index l = l.index + prefix_len (λ b. not (b == 32)) (drop l.index l.text) ≡ prefix_len (λ b. not (b == 32)) l.text
