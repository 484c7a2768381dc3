use Rattle.world_laws.proofs.Described.{starts-described}
use Rattle.world_laws.proofs.standing.starts_described.Goals as goal

pub returns : goal.returns
returns c code shapes ctx_len plan around name program context closed bound long bytes =
    starts-described code shapes ctx_len plan closed around name program context bound long bytes
