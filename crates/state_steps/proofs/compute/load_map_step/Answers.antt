use Rattle.bpf_model.proofs.Prelude.{rules, refl, ◌∙◌, SFits, to_z-of_z}
use Rattle.effects.proofs.Prelude.{SetsKind}
use Rattle.model_laws.proofs.Prelude.{LoadMap}
use Rattle.register_kinds.proofs.Prelude.{state_of}
use Rattle.std.proofs.Common.{w32}
use Rattle.state_steps.proofs.Serving.{map_serves}
use Rattle.state_steps.proofs.Stepping.{quiet_step}
use Rattle.state_steps.proofs.compute.load_map_step.Goals as goal

pub returns : goal.returns
returns c = λ ctx_len top below.
    let f : SFits w32 c.args.map = search rules in
    let sound = simp to_z-of_z at c.in_ok-load_map.ensures.sound in
    let sets = simp to_z-of_z at c.load_map.ensures.sets in
    quiet_step (LoadMap c.args.dst c.args.map) c.args.shape.now.shapes.now ctx_len top c.args.state.now
    c.load_map.new.state c.single.result c.single.ensures
    (record { no_base = refl; no_test = λ r x. x; no_branch = λ x. x.1 refl })
    (sound c.args.shape.now.shapes.now ctx_len refl) (c.load_map.ensures.below top below) (λ ready. absurd ready.simple)
    (map_serves c.args.dst c.args.map c.args.shape.now.shapes.now (state_of c.args.state.now)
    (λ k. SetsKind c.load_map.result c.args.dst k (state_of c.args.state.now) (state_of c.load_map.new.state))
    sets (state_of c.load_map.new.state) (λ k r. r.alike))
    tt
    (λ r s n e. c.in_ok-load_map.ensures.others r n ∙ e)
    (λ h. absurd h)
