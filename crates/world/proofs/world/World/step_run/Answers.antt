use Rattle.bpf_model.proofs.Prelude.{◌≡◌, ◌<◌, ◌^◌, rules, IsReal}
use Rattle.model_laws.proofs.Prelude.{Step}
use Rattle.world_laws.proofs.KeepingWorlds.{world_is_matched}
use Rattle.world.proofs.Answering.{Reacts, stays_world}
use Rattle.world.proofs.world.World.step_run.Goals as goal

pub stepped-requires : goal.stepped-requires
stepped-requires c = record { sound = world_is_matched c.self.inside.parts c.self.invariant }

pub invariant_of-self : goal.invariant_of-self
invariant_of-self c =
    let real : IsReal (Step c.args.run) = search rules in
    let r : Reacts c.self.inside.parts (Step c.args.run) _ c.stepped.new.self =
    record { is = c.self.invariant; real = real; answer_is = c.stepped.ensures.answer; new_is = c.stepped.ensures.new } in
    stays_world r
