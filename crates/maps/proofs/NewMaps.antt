-- The maps of a world that nothing has used.
use Rattle.bpf_model.proofs.Prelude.{◌∙◌, List, [], ◌∷◌, ◌++◌, map, sym, ap, map-append, AreNewMaps, MapView, new_map_view, shapes_of_maps}
use Rattle.model_laws.proofs.Prelude.{MapShape}
use Rattle.model_laws.proofs.Starting.{shapes-start}

-- a new map is new, and leaves the others new
pub new-more : (maps : List MapView) (shape : MapShape) → AreNewMaps maps → AreNewMaps (maps ++ new_map_view shape ∷ [])
new-more maps shape e =
    ap (λ m. m ++ new_map_view shape ∷ []) e
    ∙ (sym (map-append new_map_view (shapes_of_maps maps) (shape ∷ []))
    ∙ (ap (λ l. map new_map_view (shapes_of_maps maps ++ l)) (sym (shapes-start (shape ∷ [])))
    ∙ ap (map new_map_view) (sym (map-append (λ v. v.shape) maps (new_map_view shape ∷ [])))))
