use Rattle.bpf_model.proofs.Prelude.{◌≡◌, ◌∙◌, List, ap, sym, subst, slice_get, Some, IsShape, MapView}
use Rattle.bpf_model.specs.View.{shape_of_view as shape_of}
use Rattle.model_laws.proofs.Counting.{map-back}
use Rattle.maps.specs.Registry.{RegistryView}
use Rattle.maps.proofs.registry.Registry.have_shapes.Goals as goal

pub returns : goal.returns
returns c = λ k shape at.
    let maps = c.args.self.now.maps in
    let same : c.deref.result.now ≡ maps = c.deref.ensures.value ∙ ap (λ (r : RegistryView). r.maps) c.self.view_is in
    let of_map = map-back shape_of maps k shape at in
    let here = subst (λ (vs : List MapView). slice_get vs k ≡ Some of_map.0) (sym same) of_map.1 in
    subst IsShape of_map.2 (c.each_has_shape.ensures k of_map.0 here)
