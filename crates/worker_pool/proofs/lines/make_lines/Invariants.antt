use Rattle.bpf_model.proofs.Prelude.{◌≡◌, take}
use Rattle.worker_pool.specs.Lines.{job_lines}
use Rattle.worker_pool.proofs.lines.make_lines.Given as goal

abbrev pub invariant-loop-index : goal.invariant-loop-index
invariant-loop-index l = l.text.items ≡ job_lines l.first (take l.index l.outcomes)
