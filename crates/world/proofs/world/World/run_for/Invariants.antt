use Rattle.bpf_model.proofs.Prelude.{◌-◌, ◌≤◌}
use Rattle.world.proofs.Prelude.{MakesMoves}
use Rattle.world.proofs.world.World.run_for.Given as goal

-- so many moves, and no more than there may be, have led to this world
abbrev pub invariant-stretch : goal.invariant-stretch
invariant-stretch l = record {
  moves : MakesMoves l.run l.fn.self l.moved l.self;
  within : l.moved ≤ l.most;
}

abbrev pub decreases-stretch : goal.decreases-stretch
decreases-stretch l = l.most - l.moved
