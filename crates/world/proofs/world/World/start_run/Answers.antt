use Rattle.bpf_model.proofs.Prelude.{◌≡◌, ◌<◌, ◌^◌, rules, IsReal}
use Rattle.model_laws.proofs.Prelude.{Start}
use Rattle.world.proofs.Answering.{Reacts, stays_world}
use Rattle.world.proofs.world.World.start_run.Goals as goal

pub invariant_of-self : goal.invariant_of-self
invariant_of-self c =
    let real : IsReal (Start c.args.prog c.args.ctx.now) = search rules in
    let r : Reacts c.self.inside.parts (Start c.args.prog c.args.ctx.now) _ c.started.new.self =
    record { is = c.self.invariant; real = real; answer_is = c.started.ensures.answer; new_is = c.started.ensures.new } in
    stays_world r
