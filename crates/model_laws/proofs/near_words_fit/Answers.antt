use Rattle.model_laws.proofs.Words.{near_words_fit}
use Rattle.model_laws.proofs.near_words_fit.Goals as goal

pub returns : goal.returns
returns c = near_words_fit
