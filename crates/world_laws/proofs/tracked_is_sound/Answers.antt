use Rattle.world_laws.proofs.Worlds.{tracked_is_sound}
use Rattle.world_laws.proofs.tracked_is_sound.Goals as goal

pub returns : goal.returns
returns c = tracked_is_sound
