use Rattle.bpf_model.proofs.Prelude.{◌≡◌, ◌<◌, ◌^◌, rules, IsReal}
use Rattle.model_laws.proofs.Prelude.{Drop}
use Rattle.world.proofs.Answering.{Reacts, stays_world}
use Rattle.world.proofs.world.World.drop_run.Goals as goal

pub invariant_of-self : goal.invariant_of-self
invariant_of-self c =
    let real : IsReal (Drop c.args.run) = search rules in
    let r : Reacts c.self.inside.parts (Drop c.args.run) _ c.dropped-answer.new.self =
    record { is = c.self.invariant; real = real; answer_is = c.dropped-answer.ensures.answer; new_is = c.dropped-answer.ensures.new } in
    stays_world r
