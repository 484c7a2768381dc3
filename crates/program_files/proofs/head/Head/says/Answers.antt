use Rattle.program_files.proofs.Heads.{head_says}
use Rattle.program_files.proofs.head.Head.says.Goals as goal

pub returns-clause-says : goal.returns-clause-says
returns-clause-says c = head_says c.args.self.now c.args.program.now c.lines.ensures.head c.instructions.ensures.program
