use Rattle.bpf_model.proofs.Prelude.{◌+◌, ◌-◌, ◌<◌, arith, rules}
use Rattle.world.proofs.Prelude.{WouldMove, not_yet}
use Rattle.world.proofs.OwnMoves.{moves-behind, one-behind}
use Rattle.world.proofs.world.World.run_for.Goals as goal

pub stretch-init : goal.stretch-init
stretch-init c = record { moves = not_yet; within = omega arith }

pub stretch-preserved-in-Enough : goal.stretch-preserved-in-Enough
stretch-preserved-in-Enough c =
    let within = c.stretch.invariant.within in
    let most = c.in-Some.ensures.most in
    record {
      moves = moves-behind c.args.run c.args.self.now c.stretch.moved c.stretch.self c.in-Some.walk.moved c.walk.new.self
          c.stretch.invariant.moves c.in-Some.ensures.moves;
      within = omega (arith, within, most);
    }

pub returns-in-Exits-clause-moves : goal.returns-in-Exits-clause-moves
returns-in-Exits-clause-moves c =
    moves-behind c.args.run c.args.self.now c.stretch.moved c.stretch.self c.in-Some.walk.moved c.walk.new.self
    c.stretch.invariant.moves c.in-Some.ensures.moves

pub stretch-preserved : goal.stretch-preserved
stretch-preserved c =
    let so-far = moves-behind c.args.run c.args.self.now c.stretch.moved c.stretch.self c.in-Some.walk.moved c.walk.new.self
    c.stretch.invariant.moves c.in-Some.ensures.moves in
    let would : WouldMove c.walk.new.self c.args.run = search rules in
    let fewer : c.in-Some.walk.moved < c.args.most - c.stretch.moved = search rules in
    record {
      moves = one-behind c.args.run c.args.self.now (c.stretch.moved + c.in-Some.walk.moved) c.walk.new.self
          c.apply_into.new.self so-far would c.apply_into.ensures.new;
      within = omega (arith, fewer);
    }
