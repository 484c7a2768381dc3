-- The count of reclaimed elements has room in 64 bits.
use Rattle.bpf_model.proofs.Prelude.{◌≡◌, ◌+◌, ◌*◌, ◌^◌, ◌<◌, ◌≤◌, List, length, get_or, arith, sum_by, length-map, slice_get-get_or, IsShape, AreShapes}
use Rattle.bpf_model.proofs.Prelude.{most_births, slots_of_shape, MapView, WorldView, shapes_of, most_map_slots}
use Rattle.model_laws.proofs.Prelude.{MAX_REUSE, MAX_MAPS, MapShape}
use Rattle.world_laws.proofs.Prelude.{IsWorld}
use Rattle.std.proofs.lemmas.List.Sums.{sum_by-le}
use Rattle.std.proofs.Math.Nat.{mul-le-mul}

births-few : (shape : MapShape) → IsShape shape → most_births shape ≤ most_map_slots * MAX_REUSE
births-few shape is =
    let slots : slots_of_shape shape ≤ most_map_slots = omega (arith, is.entries.1, is.spare) in
    let uses : shape.reuse_limit ≤ MAX_REUSE = omega (arith, is.reuse.1) in
    mul-le-mul slots uses

all-births-few : (shapes : List MapShape) → AreShapes shapes → sum_by most_births shapes ≤ length shapes * (most_map_slots * MAX_REUSE)
all-births-few shapes are =
    sum_by-le most_births (most_map_slots * MAX_REUSE) shapes
    (λ k d within. births-few (get_or shapes k d) (are k (get_or shapes k d)
    (slice_get-get_or shapes k d within)))

pub count_has_room : (w : WorldView) → IsWorld w → w.given + 1 < 2 ^ 64
count_has_room w is =
    let shape = λ (v : MapView). v.shape in
    let count : length (shapes_of w) ≡ length w.maps = length-map w.maps shape in
    let few : length w.maps ≤ MAX_MAPS = is.ready.maps in
    let births = all-births-few (shapes_of w) is.tracks.reached.limits in
    let given : w.given ≤ sum_by most_births (shapes_of w) = is.bounded.given in
    omega (arith, count, few, births, given)
