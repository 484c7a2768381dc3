use Rattle.bpf_model.proofs.Prelude.{rules, ◌≡◌, ◌<◌, vec_len, Some, map, sym, ◌∙◌, ap, subst, arith, length, refl, slice_get, is_some, linked_count}
use Rattle.bpf_model.proofs.Prelude.{overwritten, with_elements, LooksUp, update_error, slice_get_read, length-map, get-map, both}
use Rattle.model_laws.proofs.Prelude.{Hash}
use Rattle.reference_store.specs.Births.{HasFree}
use Rattle.reference_store.specs.State.{map_of, element_of, elements_of, sections_of, store_of}
use Rattle.reference_store.proofs.Births.{no_error-free, free-in, updates-refused, updates-replaced, updates-overwritten}
use Rattle.reference_store.proofs.Oldest.{no-birth}
use Rattle.reference_store.proofs.store.Store.update.Goals as goal
use Rattle.reference_store.proofs.store.Store.update.Goals.{After-update_error, After-index-2}

link : (c : After-update_error) → LooksUp (store_of c.args.self.now) c.args.map c.args.key.items c.lookup-found.result
link c = subst (λ k. LooksUp (store_of c.args.self.now) c.args.map k c.lookup-found.result) c.as_slice.ensures.value c.lookup-found.ensures

map-at : (c : After-update_error) → c.args.map < length c.args.self.now.maps.items →
    slice_get (map map_of c.args.self.now.maps.items) c.args.map ≡ Some (map_of c.index.result.now)
map-at c there =
    let items = c.args.self.now.maps.items in
    let m = c.index.result.now in
    get-map map_of items c.args.map m (slice_get_read items (length items) c.args.map m refl there c.index.ensures)

error-is : (c : After-update_error) → update_error c.args.flags (is_some c.lookup-found.result)
    (linked_count c.args.map (elements_of c.args.self.now.elements.items)) (map_of c.index.result.now) ≡
    c.update_error.result
error-is c =
    let es = elements_of c.args.self.now.elements.items in
    let m = map_of c.index.result.now in
    ap (λ p. update_error c.args.flags p (linked_count c.args.map es) m) (sym c.is_some.ensures) ∙
    ap (λ n. update_error c.args.flags c.is_some.result n m) (sym c.linked_count-linked.ensures) ∙
    sym c.update_error.ensures

pub returns-in-Some-clause-updates : goal.returns-in-Some-clause-updates
returns-in-Some-clause-updates c = λ there.
    let tested = (goal.at.returns-in-Some-clause-updates c).After-update_error in
    updates-refused (store_of c.args.self.now) (sections_of c.args.opened.now) c.args.map (map_of c.index.result.now)
    c.args.key.items c.args.value.items c.args.flags c.lookup-found.result c.in-Some.errno (map-at tested there)
    (link tested)
    (error-is tested ∙ c.in-Some.is)

-- the map that is tested is the one whose kind is looked at
one-map : (c : After-index-2) → c.args.map < length c.args.self.now.maps.items → c.index.result.now ≡ c.index-2.result.now
one-map c there =
    let items = c.args.self.now.maps.items in
    both (slice_get items c.args.map) c.index.result.now c.index-2.result.now
    (slice_get_read items (length items) c.args.map c.index.result.now refl there c.index.ensures)
    (slice_get_read items (length items) c.args.map c.index-2.result.now refl there c.index-2.ensures)

within : (c : After-index-2) → c.args.map < length c.args.self.now.maps.items
within c =
    let len : vec_len c.args.self.now.maps ≡ length c.args.self.now.maps.items = search rules in
    omega (arith, c.if-map-len.false, c.len.ensures, len)

free : (c : After-index-2) → c.index-2.result.now.shape.kind ≡ Hash → HasFree (store_of c.args.self.now) c.args.map
free c hash =
    let tested = (goal.at.After-index-2 c).After-update_error in
    let es = elements_of c.args.self.now.elements.items in
    let m = map_of c.index.result.now in
    free-in (map map_of c.args.self.now.maps.items) c.args.map m (map-at tested (within c))
    (no_error-free c.args.flags (is_some c.lookup-found.result) (linked_count c.args.map es) m
    (ap (λ x. x.shape.kind) (one-map c (within c)) ∙ hash) (error-is tested ∙ c.in_default.is))

pub returns-in_ok-replace-in-Hash-clause-updates : goal.returns-in_ok-replace-in-Hash-clause-updates
returns-in_ok-replace-in-Hash-clause-updates c = λ there.
    let now = (goal.at.returns-in_ok-replace-in-Hash-clause-updates c).After-index-2 in
    let tested = (goal.at.returns-in_ok-replace-in-Hash-clause-updates c).After-update_error in
    let m = map_of c.index.result.now in
    updates-replaced (store_of c.args.self.now) (sections_of c.args.opened.now) c.args.map m c.args.key.items
    c.args.value.items c.args.flags c.lookup-found.result (store_of c.replace.new.self)
    (ap (λ x. x.shape.kind) (one-map now there) ∙ c.in-Hash.is) (map-at tested there) (link tested) (error-is tested ∙ c.in_default.is)
    (c.in_ok-replace-in-Hash.ensures.replaces (free now c.in-Hash.is) m (map-at tested there))

pub returns-in_ok-replace-in-Hash-clause-oldest : goal.returns-in_ok-replace-in-Hash-clause-oldest
returns-in_ok-replace-in-Hash-clause-oldest c = c.in_ok-replace-in-Hash.ensures.oldest
    (free (goal.at.returns-in_ok-replace-in-Hash-clause-oldest c).After-index-2 c.in-Hash.is)

pub returns-in-Array-clause-updates : goal.returns-in-Array-clause-updates
returns-in-Array-clause-updates c = λ there.
    let now = (goal.at.returns-in-Array-clause-updates c).After-index-2 in
    let tested = (goal.at.returns-in-Array-clause-updates c).After-update_error in
    let s = store_of c.args.self.now in
    let m = map_of c.index.result.now in
    let written = ap (λ es. record { elements = es; maps = map map_of c.overwrite.new.self.maps.items }) c.overwrite.ensures.elements
    ∙ ap (λ ms. with_elements (overwritten c.args.value.items s.elements c.lookup-found.result)
    (record { elements = s.elements; maps = map map_of ms.items })) c.overwrite.ensures.maps in
    updates-overwritten s (sections_of c.args.opened.now) c.args.map m c.args.key.items c.args.value.items
    c.args.flags c.lookup-found.result (store_of c.overwrite.new.self)
    (ap (λ x. x.shape.kind) (one-map now there) ∙ c.in-Array.is) (map-at tested there) (link tested) (error-is tested ∙ c.in_default.is) written

pub returns-in-Array-clause-oldest : goal.returns-in-Array-clause-oldest
returns-in-Array-clause-oldest c =
    no-birth (store_of c.args.self.now) (store_of c.overwrite.new.self)
    (omega (
      arith,
      length-map c.overwrite.new.self.elements.items element_of,
      length-map c.args.self.now.elements.items element_of,
      c.overwrite.ensures.births,
    ))
