use Rattle.std.proofs.Common.{List, map, ap, ◌∙◌}
use Rattle.bpf_model.specs.View.{new_map_view, shapes_of_maps, start_view}
use Rattle.bpf_model.specs.declared.limits.MapShape.{MapShape}
use Rattle.world.specs.Programs.{programs_in}
use Rattle.world.specs.declared.kept.loaded.Loaded.{Loaded}
use Rattle.bpfrt_c.proofs.NewMaps.{new_world}
use Rattle.bpfrt_c.proofs.making.world_of.Goals as goal

pub returns-in-Ok : goal.returns-in-Ok
returns-in-Ok c =
    let maps = c.in_ok-registry.registry.maps in
    let names = c.in_ok-registry.registry.names in
    let e = c.in_ok-registry.ensures.maps ∙ ap (λ (xs : List MapShape). map new_map_view xs) c.as_slice.ensures.value in
    let f = c.in-Ok.ensures.view
    ∙ ap (λ (l : List Loaded). start_view names (shapes_of_maps maps) (programs_in l)) c.new.ensures.items in
    record {
      new = (
        c.in_ok-shapes.shapes.items,
        c.in_ok-shapes.ensures.shapes,
        new_world names maps c.in_ok-shapes.shapes.items c.in-Ok.world e f,
      );
    }
