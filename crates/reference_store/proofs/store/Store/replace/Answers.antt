use Rattle.bpf_model.proofs.Prelude.{◌≡◌, [], ◌∷◌, ◌++◌, Some, None, map, arith, sym, ◌∙◌, ap, subst, Element, Linked, unlinked, LooksUp, map-append}
use Rattle.bpf_model.proofs.Prelude.{length-map, get-below}
use Rattle.reference_store.specs.State.{map_of, element_of, elements_of, sections_of, store_of}
use Rattle.reference_store.proofs.Elements.{born-found, within}
use Rattle.reference_store.proofs.Births.{replaces}
use Rattle.reference_store.proofs.Oldest.{birth}
use Rattle.reference_store.proofs.store.Store.replace.Goals as goal
use Rattle.reference_store.proofs.store.Store.replace.Goals.{After-unlink, In_default}

elements-found : (c : After-unlink) → elements_of c.unlink.new.self.elements.items
    ≡ unlinked (sections_of c.args.opened.now) (elements_of c.args.self.now.elements.items) c.args.found ++
    record {
      map = c.args.map;
      key = c.args.key.items;
      value = c.args.value.items;
      uses = c.next_use-uses.result;
      life = Linked;
    } ∷ []
elements-found c =
    let old = c.args.self.now in
    let opened = sections_of c.args.opened.now in
    let n = c.in-Some.n in
    let element : Element = record { map = c.args.map; key = c.args.key.items; value = c.args.value.items; uses = c.next_use-uses.result; life = Linked } in
    let link : LooksUp (store_of old) c.args.map c.args.key.items (Some n) =
    subst (LooksUp (store_of old) c.args.map c.args.key.items) c.in-Some.is c.requires.found in
    let inside = within (elements_of old.elements.items) c.args.map c.args.key.items n link in
    let more = ap (λ v. elements_of v.items) c.take_slot.ensures.elements ∙ ap elements_of c.in_ok-push.ensures.items
    ∙ map-append element_of old.elements.items _ in
    let since = ap sections_of c.in_ok-since.ensures.items in
    let unlinking = c.unlink.ensures.elements ∙ ap (λ o. unlinked o (elements_of c.take_slot.new.self.elements.items) (Some n)) since in
    born-found opened (elements_of old.elements.items) (elements_of c.take_slot.new.self.elements.items)
    (elements_of c.unlink.new.self.elements.items) element n inside more unlinking
    ∙ ap (λ f. unlinked opened (elements_of old.elements.items) f ++ element ∷ []) (sym c.in-Some.is)

elements-new : (c : In_default) → elements_of c.take_slot.new.self.elements.items
    ≡ unlinked (sections_of c.args.opened.now) (elements_of c.args.self.now.elements.items) c.args.found ++
    record {
      map = c.args.map;
      key = c.args.key.items;
      value = c.args.value.items;
      uses = c.next_use-uses.result;
      life = Linked;
    } ∷ []
elements-new c =
    let old = c.args.self.now in
    let opened = sections_of c.args.opened.now in
    let element : Element = record { map = c.args.map; key = c.args.key.items; value = c.args.value.items; uses = c.next_use-uses.result; life = Linked } in
    let none : c.args.found ≡ None = c.in_default.is in
    ap (λ v. elements_of v.items) c.take_slot.ensures.elements ∙ ap elements_of c.in_ok-push.ensures.items ∙
    map-append element_of old.elements.items _ ∙ ap
    (λ f. unlinked opened (elements_of old.elements.items) f ++ element ∷ []) (sym none)

pub returns-in-Some-clause-replaces : goal.returns-in-Some-clause-replaces
returns-in-Some-clause-replaces c = λ free m h.
    let maps = ap (λ v. map map_of v.items) c.unlink.ensures.maps ∙ c.take_slot.ensures.maps in
    replaces (store_of c.args.self.now) (sections_of c.args.opened.now) c.args.map m c.args.key.items
    c.args.value.items c.args.found (store_of c.unlink.new.self) c.next_use-uses.result h (free m h)
    (c.next_use-uses.ensures m h)
    (elements-found (goal.at.returns-in-Some-clause-replaces c).After-unlink) maps

pub returns-in_default-clause-replaces : goal.returns-in_default-clause-replaces
returns-in_default-clause-replaces c = λ free m h.
    replaces (store_of c.args.self.now) (sections_of c.args.opened.now) c.args.map m c.args.key.items
    c.args.value.items c.args.found (store_of c.take_slot.new.self) c.next_use-uses.result h (free m h)
    (c.next_use-uses.ensures m h)
    (elements-new (goal.at.returns-in_default-clause-replaces c).In_default) c.take_slot.ensures.maps

pub returns-in-Some-clause-oldest : goal.returns-in-Some-clause-oldest
returns-in-Some-clause-oldest c = λ free.
    let items = c.args.self.now.maps.items in
    let m = get-below (map map_of items) c.args.map (omega (arith, length-map items map_of, c.requires.there)) in
    let maps = ap (λ v. map map_of v.items) c.unlink.ensures.maps ∙ c.take_slot.ensures.maps in
    birth (store_of c.args.self.now) (store_of c.unlink.new.self) (sections_of c.args.opened.now) c.args.map m.0
    c.args.key.items c.args.value.items c.args.found c.next_use-uses.result m.1 (free m.0 m.1)
    (c.next_use-uses.ensures m.0 m.1)
    (elements-found (goal.at.returns-in-Some-clause-oldest c).After-unlink) maps

pub returns-in_default-clause-oldest : goal.returns-in_default-clause-oldest
returns-in_default-clause-oldest c = λ free.
    let items = c.args.self.now.maps.items in
    let m = get-below (map map_of items) c.args.map (omega (arith, length-map items map_of, c.requires.there)) in
    birth (store_of c.args.self.now) (store_of c.take_slot.new.self) (sections_of c.args.opened.now) c.args.map m.0
    c.args.key.items c.args.value.items c.args.found c.next_use-uses.result m.1 (free m.0 m.1)
    (c.next_use-uses.ensures m.0 m.1)
    (elements-new (goal.at.returns-in_default-clause-oldest c).In_default) c.take_slot.ensures.maps
