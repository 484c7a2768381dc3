use Rattle.program_files.specs.Stages.{content_of}
use Rattle.program_files.proofs.Files.{unfinished}
use Rattle.program_files.proofs.loader.lines_read.LinesRead.finish.Goals as goal

pub returns-in_default : goal.returns-in_default
returns-in_default c = record {
  some = λ lines h. tt;
  none = λ lines h content. unfinished c.args.self.stage lines (content_of c.args.self) content c.in_default.not-Code h;
}
