use Rattle.table_words.proofs.Prelude.{◌≡◌, drop}
use Rattle.std.proofs.Common.{fold}
use Rattle.table_words.specs.Sip.{begun, absorbed}
use Rattle.table_words.proofs.sip.hash_words.Given as goal

abbrev pub invariant-loop-at : goal.invariant-loop-at
invariant-loop-at l = fold absorbed l.state (drop l.at l.words) ≡ fold absorbed (begun l.fn.secret) l.words
