use Rattle.world.proofs.Prelude.{world_of}
use Rattle.world.proofs.ShapesKept.{bound_reaped}
use Rattle.world.proofs.kept.parts.Parts.reap_into.Goals as goal

pub invariant_of-self-in-Some : goal.invariant_of-self-in-Some
invariant_of-self-in-Some c = record {
  kept = record {
    of_runs = c.self.invariant.kept.of_runs;
    bound = bound_reaped (world_of c.self.inside.registry.names c.self.inside.registry.maps c.self.inside.runs.items
        c.self.inside.grace c.self.inside.programs.items c.self.inside.given) c.reap.new.self.maps c.in-Some.element
        c.self.inside.programs.items c.in-Some.ensures.some c.self.invariant.kept.bound;
  };
  flagged = c.self.invariant.flagged;
}
