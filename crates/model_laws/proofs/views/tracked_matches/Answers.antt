use Rattle.model_laws.proofs.Reacting.{tracked_matches}
use Rattle.model_laws.proofs.views.tracked_matches.Goals as goal

pub returns : goal.returns
returns c = tracked_matches
