use Rattle.bpf_model.proofs.Prelude.{List, sym, subst, WorldView, shapes_of, shapes_of_maps}
use Rattle.world.proofs.Prelude.{IsBound, ArePartsKept}
use Rattle.world.specs.declared.kept.loaded.Loaded.{Loaded}
use Rattle.world.proofs.Adding.{more-kept}
use Rattle.world.proofs.kept.parts.Parts.load.Goals as goal

pub invariant_of-self-2 : goal.invariant_of-self-2
invariant_of-self-2 c =
    let bound : IsBound (shapes_of_maps c.self.inside.registry.maps) c.args.loaded =
    subst (λ (w : WorldView). IsBound (shapes_of w) c.args.loaded) (sym c.self.view_is) c.requires.bound in
    subst (λ (ps : List Loaded). ArePartsKept c.self.inside.registry.maps c.self.inside.runs.items
    c.self.inside.flags.items c.self.inside.grace ps) (sym c.in_ok-push.ensures.items)
    (more-kept c.args.loaded c.self.invariant bound)
