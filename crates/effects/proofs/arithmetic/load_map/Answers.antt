use Rattle.bpf_model.proofs.Prelude.{rules, SFits, to_z-of_z}
use Rattle.plan_laws.proofs.Prelude.{MapAt}
use Rattle.register_kinds.proofs.Prelude.{state_of}
use Rattle.std.proofs.Common.{w32}
use Rattle.effects.proofs.Combining.{map_sound}
use Rattle.register_kinds.proofs.Setting.{set-elsewhere}
use Rattle.effects.proofs.arithmetic.load_map.Goals as goal

pub returns-clause-sound : goal.returns-clause-sound
returns-clause-sound c =
    let f : SFits w32 c.args.map = search rules in
    let value = simp to_z-of_z at c.in_ok-index.ensures.value in
    map_sound c.args.dst c.args.map c.in_ok-index.index c.args.maps c.args.state.now c.set.new.self value
    c.in_ok-index.ensures.bound c.in_ok-check_writable.ensures.value c.set.ensures.alike

pub returns-clause-others : goal.returns-clause-others
returns-clause-others c = λ r ne. set-elsewhere c.args.dst r (MapAt c.in_ok-index.index) (state_of c.args.state.now)
    (state_of c.set.new.self) c.set.ensures.alike ne
