use Rattle.model_laws.proofs.Words.{near_words_differ}
use Rattle.model_laws.proofs.near_words_differ.Goals as goal

pub returns : goal.returns
returns c = near_words_differ
