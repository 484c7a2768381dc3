use Rattle.table_words.specs.Sip.{finished}
use Rattle.table_words.proofs.sip.finish.Goals as goal

pub returns : goal.returns
unfolding finished
returns c = simp (c.round-after.ensures, c.round-2.ensures, c.round.ensures)
