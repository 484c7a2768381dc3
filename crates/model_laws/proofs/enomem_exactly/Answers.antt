use Rattle.model_laws.proofs.Accounting.{enomem_exactly}
use Rattle.model_laws.proofs.enomem_exactly.Goals as goal

pub returns : goal.returns
returns c = enomem_exactly
