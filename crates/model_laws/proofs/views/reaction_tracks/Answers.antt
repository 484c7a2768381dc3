use Rattle.model_laws.proofs.Reacting.{reaction_tracks}
use Rattle.model_laws.proofs.views.reaction_tracks.Goals as goal

pub returns : goal.returns
returns c = reaction_tracks
