use Rattle.world_laws.proofs.Described.{alone-described}
use Rattle.world_laws.proofs.standing.moves_described.Goals as goal

pub returns : goal.returns
returns c code shapes ctx_len plan around run insn next closed described here e =
    alone-described code shapes ctx_len plan closed around run described insn next here e
