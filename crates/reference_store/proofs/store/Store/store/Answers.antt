use Rattle.bpf_model.proofs.Prelude.{rules, ◌≡◌, ◌<◌, arith, length, Some, sym, subst, vec_len, refl, slice_get, ◌+ℤ◌, w16, w64, to_z-of_z, SFits, ◌>>=◌}
use Rattle.bpf_model.proofs.Prelude.{byte_count, accessible, stored_in, slice_get_read, map-set, get-map}
use Rattle.reference_store.specs.State.{element_of, elements_of}
use Rattle.reference_store.specs.Storing.{StoresTo}
use Rattle.reference_store.proofs.Accesses.{stores-to}
use Rattle.reference_store.proofs.store.Store.store.Goals as goal

pub returns-clause-elements : goal.returns-clause-elements
returns-clause-elements c =
    let items = c.args.self.now.elements.items in
    let len : vec_len c.args.self.now.elements ≡ length items = search rules in
    let bound : c.args.n < length items = omega (arith, c.if-n-len.false, c.len.ensures, len) in
    let x = c.index_mut.result.now in
    let there : slice_get (elements_of items) c.args.n ≡ Some (element_of x) =
    get-map element_of items c.args.n x (slice_get_read items (length items) c.args.n x refl bound
    c.index_mut.ensures.value) in
    let g : SFits w16 c.args.offset = c.ranges.offset in
    let h : SFits w64 c.args.o = c.ranges.o in
    let saves = simp to_z-of_z at c.save.ensures in
    subst (StoresTo (accessible (elements_of items) c.args.n
    >>= stored_in (elements_of items) c.args.n (byte_count c.args.width) (c.args.o +ℤ c.args.offset)
    c.args.number) c.save.result)
    (sym (map-set element_of items c.args.n c.save.new.element))
    (stores-to (elements_of items) c.args.n (element_of x) (element_of c.save.new.element) (byte_count c.args.width)
    (c.args.o +ℤ c.args.offset) c.args.number c.save.result there saves)
