use Rattle.world.proofs.Runs.{turned-kept}
use Rattle.world.proofs.ShapesKept.{bound_turned}
use Rattle.world.proofs.kept.parts.Parts.advance_into.Goals as goal

pub invariant_of-self : goal.invariant_of-self
invariant_of-self c = record {
  kept = record {
    of_runs = turned-kept c.advance.result c.self.inside.runs.items c.self.inside.grace c.advance.new.self
        c.self.inside.programs.items c.advance.ensures.new c.self.invariant.kept.of_runs;
    bound = bound_turned c.self.inside.registry.maps c.advance-then-advance.new.self.maps c.self.inside.programs.items
        c.advance-then-advance.ensures.maps c.self.invariant.kept.bound;
  };
  flagged = c.self.invariant.flagged;
}
