use Rattle.bpf_model.proofs.Prelude.{length, map}
use Rattle.program_files.proofs.ContextLists.{AreReadTo}
use Rattle.program_files.proofs.contexts.contexts_in_lines.Given as goal

abbrev pub invariant-loop-rest : goal.invariant-loop-rest
invariant-loop-rest l = AreReadTo l.len l.bytes l.rest (map (λ c. c.items) l.contexts.items)

abbrev pub decreases-loop-rest : goal.decreases-loop-rest
decreases-loop-rest l = length l.rest
