use Rattle.bpf_model.proofs.Prelude.{rules, ◌≡◌, ◌<◌, arith, length, sym, ap, ◌∙◌, vec_len, refl, with_value, overwritten, slice_get_read, map-set, get-map}
use Rattle.reference_store.specs.State.{element_of, elements_of}
use Rattle.reference_store.proofs.Elements.{changed-at}
use Rattle.reference_store.proofs.store.Store.overwrite.Goals as goal

pub returns-then-n-len-clause-elements : goal.returns-then-n-len-clause-elements
returns-then-n-len-clause-elements c =
    let e = c.index_mut.result.now in
    let items = c.args.self.now.elements.items in
    let n = c.in-Some.n in
    let value = c.args.value.items in
    let len : vec_len c.args.self.now.elements ≡ length items = search rules in
    let bound : n < length items = omega (arith, c.if-n-len.true, c.len.ensures, len) in
    let read = get-map element_of items n e (slice_get_read items (length items) n e refl bound c.index_mut.ensures.value) in
    map-set element_of items n _ ∙ sym (changed-at (with_value value) (elements_of items) n (element_of e) read)
    ∙ ap (overwritten value (elements_of items)) (sym c.in-Some.is)
