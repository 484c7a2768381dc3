use Rattle.reference_interpreter.proofs.memory.+number_in_frame.Given as goal

abbrev pub decreases-number_in_frame : goal.decreases-number_in_frame
decreases-number_in_frame l = l.width
