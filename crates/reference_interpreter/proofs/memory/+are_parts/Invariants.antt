use Rattle.reference_interpreter.proofs.memory.+are_parts.Given as goal

abbrev pub decreases-are_parts : goal.decreases-are_parts
decreases-are_parts l = l.n
