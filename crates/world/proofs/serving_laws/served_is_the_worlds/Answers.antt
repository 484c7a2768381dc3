use Rattle.world.proofs.ServedSteps.{served_is}
use Rattle.world.proofs.serving_laws.served_is_the_worlds.Goals as goal

pub returns : goal.returns
returns c = λ insn request program r v w word f g shows deep e can reply. served_is r v w f g shows deep program word insn request e can reply
