use Rattle.bpf_model.proofs.Prelude.{◌≡◌, ◌<◌, arith, length, Some, ◌∙◌, subst, refl, slice_get, length-map, IsLinkedAt, LooksUp, slice_get_read, cloned}
use Rattle.bpf_model.proofs.Prelude.{get-map}
use Rattle.reference_store.specs.State.{elements_of, store_of, element_of}
use Rattle.reference_store.proofs.Elements.{within, one-element}
use Rattle.reference_store.proofs.store.Store.read.Goals as goal

pub returns-in_ok-clone-in-Some : goal.returns-in_ok-clone-in-Some
returns-in_ok-clone-in-Some c =
    let items = c.args.self.now.elements.items in
    let n = c.in-Some.n in
    let link : IsLinkedAt (elements_of items) c.args.map c.args.key.now n =
    subst (LooksUp (store_of c.args.self.now) c.args.map c.args.key.now) c.in-Some.is c.lookup.ensures in
    let bound : n < length items = omega (arith, within (elements_of items) c.args.map c.args.key.now n link, length-map items element_of) in
    let x = c.index.result.now in
    let there : slice_get (elements_of items) n ≡ Some (element_of x) =
    get-map element_of items n x (slice_get_read items (length items) n x refl bound c.index.ensures) in (
      n,
      link,
      cloned x.value.items c.in_ok-clone-in-Some.field-0.items c.in_ok-clone-in-Some.ensures.cases ∙
          one-element (elements_of items) c.args.map c.args.key.now n (element_of x) link there,
    )
