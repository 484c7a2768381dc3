use Rattle.bpf_model.proofs.Prelude.{rules, ◌≡◌, ◌<◌, arith, length, Some, map, ◌∙◌, ap, vec_len, refl, slice_get, slice_set, Reclaimed, with_life, Store}
use Rattle.bpf_model.proofs.Prelude.{slice_get_read, map-set, cloned, get-map, both}
use Rattle.reference_store.specs.State.{map_of, element_of, elements_of, store_of, sections_of}
use Rattle.reference_store.specs.declared.element.Life.TheVariants as lives
use Rattle.reference_store.proofs.Reclaims.{reclaims-at}
use Rattle.reference_store.proofs.store.Store.reclaim.Goals as goal

pub returns-clause-tells : goal.returns-clause-tells
returns-clause-tells c =
    let old = c.args.self.now in
    let items = old.elements.items in
    let maps = old.maps.items in
    let x = c.index-element.result.now in
    let again = c.index_mut-2.result.now in
    let y = c.index_mut.result.now in
    let z = c.give_back.new.self in
    let len : vec_len old.elements ≡ length items = search rules in
    let bound : c.args.n < length items = omega (arith, c.if-n-len.false, c.len.ensures, len) in
    let map_len : vec_len old.maps ≡ length maps = search rules in
    let map_bound : x.map < length maps = omega (arith, c.if-map-len.false, c.len-2.ensures, map_len) in
    let hx : slice_get (elements_of items) c.args.n ≡ Some (element_of x) =
    get-map element_of items c.args.n x (slice_get_read items (length items) c.args.n x refl bound
    c.index-element.ensures) in
    let hagain : slice_get (elements_of items) c.args.n ≡ Some (element_of again) =
    get-map element_of items c.args.n again (slice_get_read items (length items) c.args.n again refl bound
    c.index_mut-2.ensures.value) in
    let hy : slice_get (map map_of maps) x.map ≡ Some (map_of y) =
    get-map map_of maps x.map y (slice_get_read maps (length maps) x.map y refl map_bound
    c.index_mut.ensures.value) in
    let one = both (slice_get (elements_of items) c.args.n) (element_of again) (element_of x) hagain hx in
    let elements = map-set element_of items c.args.n _ ∙ ap (λ a. slice_set (elements_of items) c.args.n (with_life Reclaimed a)) one in
    let new_maps = map-set map_of maps x.map z in
    let new : Store = record {
      elements = elements_of (slice_set items c.args.n
          (record again { life = lives.Reclaimed }));
      maps = map map_of (slice_set maps x.map z);
    } in (
      element_of x,
      reclaims-at (store_of old) (sections_of c.args.opened.now) c.args.n (element_of x) (map_of y) (map_of z)
          c.in_ok-given.given new hx hy (c.has_ended.ensures.0 c.if-not-has_ended.false) c.in_ok-given.ensures.tells.0
          c.in_ok-given.ensures.tells.1 elements new_maps,
      c.new-map.ensures,
      cloned x.key.items c.in_ok-key.key.items c.in_ok-key.ensures.cases,
    )
