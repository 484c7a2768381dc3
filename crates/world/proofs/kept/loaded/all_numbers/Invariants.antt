use Rattle.bpf_model.proofs.Prelude.{◌≡◌, length, map, take, range_with_len, Some, slice_get}
use Rattle.world.proofs.kept.loaded.all_numbers.Given as goal

abbrev pub invariant-loop-number : goal.invariant-loop-number
invariant-loop-number l =
    (l.maps.items ≡ range_with_len 0 l.number)
    × (map (slice_get l.shapes) l.maps.items ≡ map Some (take l.number l.shapes))
    × (length l.maps.items ≡ l.number)
