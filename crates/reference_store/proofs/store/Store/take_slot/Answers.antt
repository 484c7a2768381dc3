use Rattle.bpf_model.proofs.Prelude.{rules, ◌≡◌, length, Some, map, sym, ◌∙◌, ap, refl, slice_get, slice_set, slice_get_read, map-set, get-map}
use Rattle.reference_store.specs.State.{map_of}
use Rattle.reference_store.proofs.Lists.{remove-first}
use Rattle.reference_store.proofs.Births.{without_first-at, without_first-none}
use Rattle.reference_store.proofs.store.Store.take_slot.Goals as goal

pub returns-then-not-is_empty-clause-maps : goal.returns-then-not-is_empty-clause-maps
returns-then-not-is_empty-clause-maps c =
    let items = c.args.self.now.maps.items in
    let m = c.index_mut.result.now in
    let at : slice_get (map map_of items) c.args.map ≡ Some (map_of m) =
    get-map map_of items c.args.map m (slice_get_read items (length items) c.args.map m refl c.requires
    c.index_mut.ensures.value) in
    let bag = c.remove.ensures.items ∙ remove-first m.bag.items in
    map-set map_of items c.args.map _ ∙ ap (λ b. slice_set (map map_of items) c.args.map (record { shape = m.shape; bag = b; worn = m.worn })) bag
    ∙ sym (without_first-at (map map_of items) c.args.map (map_of m) at)

pub returns-else-not-is_empty-clause-maps : goal.returns-else-not-is_empty-clause-maps
returns-else-not-is_empty-clause-maps c =
    let items = c.args.self.now.maps.items in
    let m = c.index.result.now in
    let at : slice_get (map map_of items) c.args.map ≡ Some (map_of m) =
    get-map map_of items c.args.map m (slice_get_read items (length items) c.args.map m refl c.requires
    c.index.ensures) in
    let empty : length m.bag.items ≡ 0 = search rules in
    sym (without_first-none (map map_of items) c.args.map (map_of m) at empty)
