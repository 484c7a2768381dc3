use Rattle.script_stream.specs.Lines.{lines_of}
use Rattle.program_files.proofs.Texts.{short_file}
use Rattle.program_files.proofs.loader.program_file.load_text.Goals as goal

pub returns-in-None-clause-fault : goal.returns-in-None-clause-fault
returns-in-None-clause-fault c =
    let lines = lines_of c.args.text.now in
    short_file c.args.text.now c.in_ok-read.read.next c.in_ok-read.ensures.next (c.begins.ensures lines c.in_ok-read.ensures.read)
    (c.in-None.ensures.none lines c.in_ok-read.ensures.read)
