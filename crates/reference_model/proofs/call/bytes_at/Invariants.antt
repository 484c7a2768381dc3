use Rattle.bpf_model.proofs.Prelude.{◌≡◌, ◌+◌, ◌-◌, bytes_at}
use Rattle.reference_interpreter.specs.Plain.{plain_state_of}
use Rattle.reference_model.proofs.Bytes.{with_front}
use Rattle.reference_model.proofs.call.bytes_at.Given as goal

abbrev pub invariant-loop-k : goal.invariant-loop-k
invariant-loop-k g l = bytes_at (plain_state_of l.run).frame l.at l.len ≡ with_front l.bytes.items
    (bytes_at (plain_state_of l.run).frame (l.at + l.k) (l.len - l.k))
