use Rattle.bpf_model.proofs.Prelude.{rules}
use Rattle.shared.proofs.Meters.{begins, forks}
use Rattle.shared.proofs.state.counters.begin.Goals as goal

pub ruled-requires : goal.ruled-requires
ruled-requires c = (search rules, (search rules, begins))

pub split_pass-reader-requires : goal.split_pass-reader-requires
split_pass-reader-requires c = (search rules, (search rules, (search rules, forks _ _)))
