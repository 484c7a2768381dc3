use Rattle.bpf_model.proofs.Prelude.{rules, ◌≡◌, ◌<◌, ◌≤◌, arith, length, sym, ◌∙◌, vec_len, refl, Unlinked, with_life, slice_get_read, slice_get_past}
use Rattle.bpf_model.proofs.Prelude.{map-set, length-map, get-map}
use Rattle.reference_store.specs.State.{element_of, elements_of, sections_of}
use Rattle.reference_store.proofs.Elements.{changed-at, changed-past}
use Rattle.reference_store.proofs.store.Store.unlink.Goals as goal

pub returns-then-n-len-clause-elements : goal.returns-then-n-len-clause-elements
returns-then-n-len-clause-elements c =
    let e = c.index_mut.result.now in
    let items = c.args.self.now.elements.items in
    let opened = sections_of c.args.opened.items in
    let len : vec_len c.args.self.now.elements ≡ length items = search rules in
    let bound : c.args.n < length items = omega (arith, c.if-n-len.true, c.len.ensures, len) in
    let read = get-map element_of items c.args.n e (slice_get_read items (length items) c.args.n e refl bound c.index_mut.ensures.value) in
    map-set element_of items c.args.n _ ∙ sym (changed-at (with_life (Unlinked opened)) (elements_of items) c.args.n (element_of e) read)

pub returns-else-n-len-clause-elements : goal.returns-else-n-len-clause-elements
returns-else-n-len-clause-elements c =
    let items = c.args.self.now.elements.items in
    let opened = sections_of c.args.opened.items in
    let len : vec_len c.args.self.now.elements ≡ length items = search rules in
    let far : length (elements_of items) ≤ c.args.n = omega (arith, length-map items element_of, c.if-n-len.false, c.len.ensures, len) in
    sym (changed-past (with_life (Unlinked opened)) (elements_of items) c.args.n (slice_get_past (elements_of items) c.args.n far))
