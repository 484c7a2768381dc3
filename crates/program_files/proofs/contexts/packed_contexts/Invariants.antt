use Rattle.bpf_model.proofs.Prelude.{length, map}
use Rattle.program_files.proofs.ContextLists.{ArePackedTo}
use Rattle.program_files.proofs.contexts.packed_contexts.Given as goal

abbrev pub invariant-loop-rest : goal.invariant-loop-rest
invariant-loop-rest l = ArePackedTo l.len l.bytes l.rest (map (λ c. c.items) l.contexts.items)

abbrev pub decreases-loop-rest : goal.decreases-loop-rest
decreases-loop-rest l = length l.rest
