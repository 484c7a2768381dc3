use Rattle.bpf_model.proofs.Prelude.{refl}
use Rattle.effects.proofs.Branches.{value_forks}
use Rattle.effects.proofs.forks.value_forks.Goals as goal

pub returns : goal.returns
returns c = λ equal dst map s a e. value_forks equal dst map s a a e refl
