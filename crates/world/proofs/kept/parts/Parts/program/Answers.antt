use Rattle.bpf_model.proofs.Prelude.{◌∙◌, List, ap, subst, slice_get, IfSome, WorldView, shapes_of, shapes_of_maps}
use Rattle.world.proofs.Prelude.{IsBound}
use Rattle.world.specs.declared.kept.loaded.Loaded.{Loaded}
use Rattle.world.proofs.Given.{program-bound}
use Rattle.world.proofs.kept.parts.Parts.program.Goals as goal

pub returns-clause-bound : goal.returns-clause-bound
returns-clause-bound c =
    subst (λ (w : WorldView). IfSome c.program_at.result (λ l. IsBound (shapes_of w) l.now)) c.self.view_is
    (program-bound (shapes_of_maps c.self.inside.registry.maps) c.self.inside.programs.items c.self.invariant.kept.bound
    c.args.prog c.program_at.result (c.program_at.ensures ∙
    ap (λ (ps : List Loaded). slice_get ps c.args.prog) c.deref.ensures.value))
