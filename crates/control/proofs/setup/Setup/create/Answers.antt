use Rattle.bpf_model.proofs.Prelude.{◌≡◌, ◌∙◌, ◌∷◌, [], length, refl, sym, ap, subst, arith, length-append, AreNewMaps, new_map_view, shapes_of_maps}
use Rattle.world.proofs.Prelude.{AreProgramsBound}
use Rattle.maps.specs.Registry.{creation_fault}
use Rattle.control.proofs.MapReplies.{create-refused}
use Rattle.maps.proofs.NewMaps.{new-more}
use Rattle.control.proofs.GrownSetups.{bound-still}
use Rattle.control.proofs.BadNames.{bad-name}
use Rattle.control.proofs.setup.Setup.create.Goals as goal

pub returns-in_default-clause-replies : goal.returns-in_default-clause-replies
returns-in_default-clause-replies c =
    rw (bad-name c.args.self.now.registry c.args.name.now c.args.shape c.in_default.ensures.none) (refl, refl)

pub invariant_of-self-2 : goal.invariant_of-self-2
invariant_of-self-2 c =
    let i = c.self.invariant in
    let old = c.self.inside.registry in
    let shape = c.args.shape in
    let names = c.in-Ok.ensures.names in
    let maps = c.in-Ok.ensures.maps in
    record {
      one_name_each = omega (
        arith,
        ap length names,
        ap length maps,
        length-append old.names (c.in-Some.text.now ∷ []),
        length-append old.maps (new_map_view shape ∷ []),
        i.one_name_each,
      );
      new_maps = subst AreNewMaps (sym maps) (new-more old.maps shape i.new_maps);
      bound = subst (λ m. AreProgramsBound (shapes_of_maps m) c.self.inside.loaded.items) (sym maps)
          (bound-still old.maps (new_map_view shape) c.self.inside.loaded.items i.bound);
      few = i.few;
    }

pub returns-in-Err-clause-replies : goal.returns-in-Err-clause-replies
returns-in-Err-clause-replies c =
    let s = c.args.self.now in
    let shape = c.args.shape in
    let e = c.in-Err.ensures in
    let text : c.in-Some.text.now ≡ c.args.name.now = c.in-Some.ensures.some in
    let before : c.self.inside.registry ≡ s.registry = ap (λ v. v.registry) c.self.view_is in
    let same = ap (λ r. creation_fault r c.in-Some.text.now shape) before ∙ ap (λ n. creation_fault s.registry n shape) text in
    create-refused s c.args.name.now shape c.in-Err.fault _ _ c.uncreated.result _ same e.tested e.made
    c.uncreated.ensures.known c.uncreated.ensures.refused (cc (e.err, c.self.view_is))
