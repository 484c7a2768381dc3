use Rattle.reference_interpreter.proofs.memory.+number_in.Given as goal

abbrev pub decreases-number_in : goal.decreases-number_in
decreases-number_in l = l.width
