use Rattle.bpf_model.proofs.Prelude.{arith}
use Rattle.host_tables.proofs.Meeting.{meets_once}
use Rattle.host_tables.proofs.walking.walks_meet_each_once.Goals as goal

pub returns : goal.returns
returns c = λ k way calls last walk high never. meets_once k 0 way calls last (omega arith) high never walk
