use Rattle.program_files.proofs.Files.{stage_begins}
use Rattle.program_files.proofs.loader.lines_read.LinesRead.begins.Goals as goal

pub returns : goal.returns
returns c lines h = stage_begins c.args.self.now.stage lines _ h
