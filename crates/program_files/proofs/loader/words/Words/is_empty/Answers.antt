use Rattle.program_files.proofs.Cuts.{words_some}
use Rattle.program_files.proofs.loader.words.Words.is_empty.Goals as goal

pub returns-clause-more : goal.returns-clause-more
returns-clause-more c = words_some c.args.self.now.rest c.is_none.result c.is_none.ensures
