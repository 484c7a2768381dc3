use Rattle.bpf_model.proofs.Prelude.{Consumes}
use Rattle.program_files.proofs.program_file.read_text.Given as goal

abbrev pub invariant-loop : goal.invariant-loop
invariant-loop g l = Consumes (g.R.Read.remaining l.fn.input) (g.R.Read.remaining l.input) l.text.items
