use Rattle.bpf_model.proofs.Prelude.{◌≡◌, ◌∙◌, ◌++◌, ◌∷◌, [], length, Some, sym, ap, subst, arith, append_assoc, slice_get, option_map, length-append}
use Rattle.bpf_model.proofs.Prelude.{slice_get-map, MapView, shapes_of_maps}
use Rattle.world_laws.proofs.Prelude.{IsBoundTo}
use Rattle.control.specs.MapAndLoad.{AreMapsNamed}
use Rattle.control.proofs.GrownSetups.{found-next}
use Rattle.control.proofs.setup.Setup.bind.Goals as goal

pub loop-preserved : goal.loop-preserved
loop-preserved c =
    let s = c.args.self.now in
    let i = c.loop.invariant in
    let front = i.0 in
    let name = c.in-Some.name in
    let maps = c.loop.bound.maps.items in
    let shapes = c.loop.bound.shapes.items in
    let number = c.in-Some-map_named.map in
    let shape = c.in-Some-shape.shape in
    let registry : c.self.inside.registry ≡ s.registry = ap (λ v. v.registry) c.self.view_is in
    let names : c.self.inside.registry.names ≡ s.registry.names = ap (λ r. r.names) registry in
    let found : slice_get s.registry.names number ≡ Some name = ap (λ n. slice_get n number) (sym names) ∙
    (c.in-Some-map_named.ensures ∙ ap Some c.bytes.ensures) in
    let is : slice_get (shapes_of_maps s.registry.maps) number ≡ Some shape =
    slice_get-map (λ v. v.shape) s.registry.maps number ∙
    (ap (λ r. option_map (λ (v : MapView). v.shape) (slice_get r.maps number)) (sym registry) ∙
    sym c.in-Some-shape.ensures) in
    let pushed : c.push.new.self.items ≡ maps ++ number ∷ [] = c.push.ensures.items ∙ ap (λ n. maps ++ n ∷ []) c.index.ensures in
    let shown : c.push-in-loop.new.self.items ≡ shapes ++ shape ∷ [] = c.in_ok-push.ensures.items in (
      front ++ name ∷ [],
      (i.1 ∙ ap (λ r. front ++ r) c.in-Some.ensures.some) ∙ sym (append_assoc front (name ∷ []) c.next.new.self),
      subst (λ m. AreMapsNamed s.registry.names (front ++ name ∷ []) m) (sym pushed) (found-next s.registry.names maps front number name i.2 found),
      subst (λ m. IsBoundTo (shapes_of_maps s.registry.maps) c.push-in-loop.new.self.items m) (sym pushed)
          (subst (λ x. IsBoundTo (shapes_of_maps s.registry.maps) x (maps ++ number ∷ [])) (sym shown)
          (found-next (shapes_of_maps s.registry.maps) maps shapes number shape i.3 is)),
      omega (arith, ap length pushed, length-append maps (number ∷ []), i.4),
    )
