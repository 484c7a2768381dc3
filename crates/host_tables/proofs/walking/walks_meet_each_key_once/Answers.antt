use Rattle.bpf_model.proofs.Prelude.{arith}
use Rattle.host_tables.proofs.KeyWalks.{meets_key_once}
use Rattle.host_tables.proofs.walking.walks_meet_each_key_once.Goals as goal

pub returns : goal.returns
returns c = λ k key way calls last walk high stays. meets_key_once k key way last 0 calls (omega arith) high walk stays
