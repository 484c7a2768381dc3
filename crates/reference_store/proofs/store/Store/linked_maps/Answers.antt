use Rattle.bpf_model.proofs.Prelude.{rules, ◌≡◌, ◌<◌, ◌++◌, ◌∷◌, [], length, Some, map, sym, ap, ◌∙◌, arith, vec_len, refl, slice_get, drop, ◌+◌, length-map}
use Rattle.bpf_model.proofs.Prelude.{slice_get_read, get-map}
use Rattle.reference_store.specs.State.{element_of, elements_of}
use Rattle.reference_store.specs.Retiring.{linked_map}
use Rattle.reference_store.proofs.Lists.{mapped-more, mapped-all}
use Rattle.reference_store.proofs.store.Store.linked_maps.Goals as goal

pub loop-n-preserved : goal.loop-n-preserved
loop-n-preserved c =
    let items = c.args.self.now.elements.items in
    let n = c.loop-n.n in
    let x = c.index.result.now in
    let len : vec_len c.args.self.now.elements ≡ length items = search rules in
    let bound : n < length items = omega (arith, c.loop-n-test.true, c.len-n-end.ensures, len) in
    let there : slice_get (elements_of items) n ≡ Some (element_of x) =
    get-map element_of items n x (slice_get_read items (length items) n x refl bound c.index.ensures) in
    let pushed = c.in_ok-push.ensures.items ∙ ap (λ o. c.loop-n.maps.items ++ o ∷ []) c.linked_map.ensures in
    c.loop-n.invariant ∙ mapped-more linked_map (elements_of items) c.loop-n.maps.items n (element_of x) there ∙
    ap (λ l. l ++ map linked_map (drop (n + 1) (elements_of items))) (sym pushed)

pub returns : goal.returns
returns c =
    let items = c.args.self.now.elements.items in
    let len : vec_len c.args.self.now.elements ≡ length items = search rules in
    sym (c.loop-n.invariant ∙ mapped-all linked_map (elements_of items) c.loop-n.maps.items c.loop-n.n
    (omega (arith, length-map items element_of, c.loop-n-test.false, c.len-n-end.ensures, len)))
