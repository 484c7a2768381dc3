use Rattle.map_table.proofs.Keeps.{starts}
use Rattle.map_table.proofs.table.MapTable.of_words.Goals as goal

pub of_words-requires : goal.of_words-requires
of_words-requires c = starts c.args.shape c.args.words.now c.requires.count c.requires.zeros
