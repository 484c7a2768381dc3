use Rattle.world.proofs.ShapesKept.{bound_changed}
use Rattle.world.proofs.kept.parts.Parts.deleted.Goals as goal

pub invariant_of-self : goal.invariant_of-self
invariant_of-self c = record {
  kept = record {
    of_runs = c.self.invariant.kept.of_runs;
    bound = bound_changed c.self.inside.registry.maps c.args.map c.map_mut-chosen.result.now c.delete.new.self
        c.self.inside.programs.items c.map_mut-chosen.ensures.value c.delete.ensures.shape c.self.invariant.kept.bound;
  };
  flagged = c.self.invariant.flagged;
}
