use Rattle.table_words.specs.Sip.{absorbed}
use Rattle.table_words.proofs.sip.absorb.Goals as goal

pub returns : goal.returns
unfolding absorbed
returns c = simp (c.round-after.ensures)
