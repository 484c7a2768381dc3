use Rattle.table_words.specs.Sip.{rounded}
use Rattle.table_words.proofs.sip.round.Goals as goal

pub returns : goal.returns
unfolding rounded
returns c = simp (
  c.rotate_left.ensures,
  c.rotate_left-2.ensures,
  c.rotate_left-3.ensures,
  c.rotate_left-4.ensures,
  c.rotate_left-5.ensures,
  c.rotate_left-6.ensures,
)
