use Rattle.world_laws.proofs.Counts.{count_has_room}
use Rattle.world_laws.proofs.KeepingWorlds.{world_is_matched}
use Rattle.world.proofs.apply.react.Goals as goal

pub step_into-requires : goal.step_into-requires
step_into-requires c = record { sound = world_is_matched c.args.parts.now c.requires }

pub reap-requires : goal.reap-requires
reap-requires c = count_has_room c.args.parts.now c.requires
