-- Worlds of new maps.
use Rattle.std.proofs.Common.{◌≡◌, ℕ, List, [], ◌∷◌, map, refl, sym, ap, ◌∙◌}
use Rattle.bpf_model.specs.View.{MapView, WorldView, AreNewMaps, new_map_view, new_view_of, shapes_of_maps, start_view}
use Rattle.bpf_model.specs.declared.limits.MapKind.{MapKind}
use Rattle.bpf_model.specs.declared.limits.MapKind.TheVariants.{Hash, Array}
use Rattle.bpf_model.specs.declared.limits.MapShape.{MapShape}
use Rattle.bpfrt_c.specs.Worlds.{IsNewWorld}

of-kind : (kind : MapKind) (s : MapShape) → (new_view_of kind s).shape ≡ s
of-kind Hash s = refl
of-kind Array s = refl

pub shapes_of_new : (xs : List MapShape) → shapes_of_maps (map new_map_view xs) ≡ xs
shapes_of_new [] = refl
shapes_of_new (x ∷ xs) = ap (λ (y : MapShape). y ∷ shapes_of_maps (map new_map_view xs)) (of-kind x.kind x)
    ∙ ap (λ (ys : List MapShape). x ∷ ys) (shapes_of_new xs)

pub are_new : (maps : List MapView) (xs : List MapShape) → maps ≡ map new_map_view xs → AreNewMaps maps
are_new maps xs e = e ∙ ap (map new_map_view) (sym (ap shapes_of_maps e ∙ shapes_of_new xs))

pub new_world : (names : List (List ℕ)) (maps : List MapView) (xs : List MapShape) (w : WorldView) → maps ≡ map new_map_view xs
    → w ≡ start_view names (shapes_of_maps maps) [] → IsNewWorld xs w
new_world names maps xs w e f = record {
  names = names;
  new = f ∙ ap (λ (shapes : List MapShape). start_view names shapes []) (ap shapes_of_maps e ∙ shapes_of_new xs);
}
