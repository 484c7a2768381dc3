use Rattle.program_files.proofs.GivenBytes.{HasRead}
use Rattle.program_files.proofs.program_file.read_file.Given as goal

abbrev pub invariant-loop : goal.invariant-loop
invariant-loop g l = HasRead (g.R.Read.remaining l.fn.input) (g.R.Read.remaining l.input) l.file
