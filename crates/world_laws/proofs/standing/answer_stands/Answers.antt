use Rattle.world_laws.proofs.Answered.{answer_stands}
use Rattle.world_laws.proofs.standing.answer_stands.Goals as goal

pub returns : goal.returns
returns c code shapes ctx_len v number some h = answer_stands code shapes ctx_len some v number h
