use Rattle.bpf_model.proofs.Prelude.{rules, refl, [], Some, None}
use Rattle.program_files.proofs.Texts.{lines_cut}
use Rattle.program_files.proofs.loader.program_file.first_line.Goals as goal

pub returns-in-Some-clause-lines : goal.returns-in-Some-clause-lines
returns-in-Some-clause-lines c =
    (lines_cut c.args.text.now c.cut.result.0.now (Some c.in-Some.rest) c.in-Some.rest.now c.requires c.cut.ensures.front (search rules) refl).0

pub returns-in-None-clause-lines : goal.returns-in-None-clause-lines
returns-in-None-clause-lines c =
    (lines_cut c.args.text.now c.cut.result.0.now None [] c.requires c.cut.ensures.front (search rules) refl).0
