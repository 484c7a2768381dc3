use Rattle.model_laws.proofs.Tracking.{simulates_tracks}
use Rattle.model_laws.proofs.views.simulates_tracks.Goals as goal

pub returns : goal.returns
returns c w new event answer real shapes programs h s t = let d = simulates_tracks w new s event answer t real shapes programs (h s t) in (d.0, d.1, d.2)
