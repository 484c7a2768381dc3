use Rattle.world_laws.proofs.Erasing.{around, bare, shown-bare}
use Rattle.world_laws.proofs.standing.stands_among_any.Goals as goal

pub returns : goal.returns
returns c code shapes ctx_len v h = (around code shapes ctx_len v h, bare code shapes ctx_len v h, shown-bare code shapes ctx_len v h)
