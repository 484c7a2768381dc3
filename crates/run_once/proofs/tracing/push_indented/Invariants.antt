use Rattle.bpf_model.proofs.Prelude.{◌≡◌, List, ℕ, ◌++◌}
use Rattle.run_once.proofs.Indented.{IsPartly}
use Rattle.run_once.proofs.tracing.push_indented.Given as goal

abbrev pub invariant-loop-byte : goal.invariant-loop-byte
invariant-loop-byte l = (late : List ℕ) × IsPartly l.begins late × (l.text.items ≡ l.fn.text.items ++ late)
