use Rattle.bpf_model.proofs.Prelude.{rules}
use Rattle.shared.proofs.Meters.{reads}
use Rattle.shared.proofs.state.counters.Counters.read.Goals as goal

pub load_as-words-requires : goal.load_as-words-requires
load_as-words-requires g c = let i = c.self.invariant in let d = c.deref.ensures in (search rules, (search rules, (search rules, reads _ _ i.1)))
