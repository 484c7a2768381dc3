use Rattle.bpf_model.proofs.Prelude.{rules, ◌≡◌, ◌<◌, arith, length, Some, sym, ◌∙◌, ap, vec_len, false, refl, slice_get, ◌+ℤ◌, w16, w64, to_z-of_z, SFits}
use Rattle.bpf_model.proofs.Prelude.{byte_count, region_offset, number_at, is_reclaimed, slice_get_read, get-map}
use Rattle.reference_store.specs.State.{element_of, elements_of}
use Rattle.reference_store.proofs.Accesses.{load-found, load-none}
use Rattle.reference_store.proofs.store.Store.load.Goals as goal
use Rattle.reference_store.proofs.store.Store.load.Goals.{After-index-element, After-region_offset}

there : (c : After-index-element) → slice_get (elements_of c.args.self.now.elements.items) c.args.n ≡ Some (element_of c.index-element.result.now)
there c =
    let items = c.args.self.now.elements.items in
    let len : vec_len c.args.self.now.elements ≡ length items = search rules in
    let bound : c.args.n < length items = omega (arith, c.if-n-len.false, c.len.ensures, len) in
    get-map element_of items c.args.n c.index-element.result.now
    (slice_get_read items (length items) c.args.n c.index-element.result.now refl bound c.index-element.ensures)

placed : (c : After-region_offset) → c.region_offset.result ≡ region_offset
    (length (element_of c.index-element.result.now).value) (byte_count c.args.width) (c.args.o +ℤ c.args.offset)
placed c =
    let g : SFits w16 c.args.offset = c.ranges.offset in
    let h : SFits w64 c.args.o = c.ranges.o in
    let place = simp to_z-of_z at c.region_offset.ensures.value in
    place ∙ ap (λ l. region_offset l (byte_count c.args.width) (c.args.o +ℤ c.args.offset)) c.len-2.ensures.value

pub returns-in-Some : goal.returns-in-Some
returns-in-Some c =
    let e = element_of c.index-element.result.now in
    let kept : is_reclaimed e.life ≡ false = sym c.is_reclaimed.ensures ∙ c.if-is_reclaimed.false in
    c.number_in.ensures.value ∙ ap (λ l. number_at (slice_get l) c.in-Some.at c.bytes.result) c.as_slice.ensures.value
    ∙ ap (λ w. number_at (slice_get e.value) c.in-Some.at w) c.bytes.ensures.value
    ∙ sym (load-found (elements_of c.args.self.now.elements.items) c.args.n e (byte_count c.args.width) c.in-Some.at
    (c.args.o +ℤ c.args.offset) (there (goal.at.returns-in-Some c).After-index-element) kept
    (sym (placed (goal.at.returns-in-Some c).After-region_offset) ∙ c.in-Some.is))

pub returns-in-None : goal.returns-in-None
returns-in-None c =
    let e = element_of c.index-element.result.now in
    let kept : is_reclaimed e.life ≡ false = sym c.is_reclaimed.ensures ∙ c.if-is_reclaimed.false in
    sym (load-none (elements_of c.args.self.now.elements.items) c.args.n e (byte_count c.args.width)
    (c.args.o +ℤ c.args.offset) (there (goal.at.returns-in-None c).After-index-element) kept
    (sym (placed (goal.at.returns-in-None c).After-region_offset) ∙ c.in-None.is))
