use Rattle.bpf_model.proofs.Prelude.{arith}
use Rattle.scalar_domain.proofs.Bits.{ones_within}
use Rattle.scalar_domain.proofs.bitwise.ones_up_to.Goals as goal

pub returns-else-n-eq0 : goal.returns-else-n-eq0
returns-else-n-eq0 c = λ x h. ones_within x c.args.n (omega arith) (omega arith) h
