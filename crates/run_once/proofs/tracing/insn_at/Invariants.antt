use Rattle.bpf_model.proofs.Prelude.{◌≡◌, drop, insn_at}
use Rattle.run_once.proofs.tracing.insn_at.Given as goal

abbrev pub invariant-loop-insn : goal.invariant-loop-insn
invariant-loop-insn l = insn_at l.program l.slot ≡ insn_at (drop l.insn-index l.program) l.left
