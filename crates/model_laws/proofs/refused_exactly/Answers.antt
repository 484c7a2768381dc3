use Rattle.model_laws.proofs.Refusing.{refused_exactly}
use Rattle.model_laws.proofs.refused_exactly.Goals as goal

pub returns : goal.returns
returns c = refused_exactly
