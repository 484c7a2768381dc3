use Rattle.bpf_model.proofs.Prelude.{◌≡◌, ◌∙◌, ◌<◌, ap, sym, arith, length, get_or, slice_set, slice_get-get_or, same_Some, MapView}
use Rattle.model_laws.proofs.Prelude.{turned_view}
use Rattle.std.proofs.lemmas.List.Edits.{map_over_more}
use Rattle.maps.proofs.registry.advance_each.Goals as goal

pub loop-chosen-preserved : goal.loop-chosen-preserved
loop-chosen-preserved c =
    let in_ : c.loop-chosen.chosen-index < length c.args.maps.now = omega arith in
    let long : c.loop-chosen.chosen-index < length c.loop-chosen.maps = omega arith in
    let v : MapView = get_or c.loop-chosen.maps c.loop-chosen.chosen-index c.chosen-item.result in
    let same : v ≡ get_or c.loop-chosen.maps c.loop-chosen.chosen-index v =
    same_Some _ _ (sym (slice_get-get_or c.loop-chosen.maps c.loop-chosen.chosen-index c.chosen-item.result long)
    ∙ slice_get-get_or c.loop-chosen.maps c.loop-chosen.chosen-index v long) in
    ap (slice_set c.loop-chosen.maps c.loop-chosen.chosen-index) c.advance.ensures
    ∙ map_over_more turned_view c.args.maps.now c.loop-chosen.maps c.loop-chosen.chosen-index v in_ c.loop-chosen.invariant same
