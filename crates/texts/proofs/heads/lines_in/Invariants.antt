use Rattle.bpf_model.proofs.Prelude.{◌≡◌, ◌≤◌, take, ◌==◌, count_by}
use Rattle.texts.proofs.heads.lines_in.Given as goal

abbrev pub invariant-loop-byte : goal.invariant-loop-byte
invariant-loop-byte l = (l.lines ≡ count_by (λ b. b == 10) (take l.byte-index l.bytes)) × (l.lines ≤ l.byte-index)
