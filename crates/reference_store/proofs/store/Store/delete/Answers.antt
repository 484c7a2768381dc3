use Rattle.bpf_model.proofs.Prelude.{◌≡◌, ◌<◌, Some, arith, map, length, refl, slice_get, IfOk-weaker, Removes, Deletes, slice_get_read, get-map}
use Rattle.reference_store.specs.State.{map_of, sections_of, store_of}
use Rattle.reference_store.proofs.Births.{deletes-hash, deletes-array}
use Rattle.reference_store.proofs.Oldest.{no-birth}
use Rattle.reference_store.proofs.store.Store.delete.Goals as goal
use Rattle.reference_store.proofs.store.Store.delete.Goals.{After-index}

map-at : (c : After-index) → c.args.map < length c.args.self.now.maps.items →
    slice_get (map map_of c.args.self.now.maps.items) c.args.map ≡ Some (map_of c.index.result.now)
map-at c there =
    let items = c.args.self.now.maps.items in
    let m = c.index.result.now in
    get-map map_of items c.args.map m (slice_get_read items (length items) c.args.map m refl there c.index.ensures)

pub returns-in-Hash-clause-deletes : goal.returns-in-Hash-clause-deletes
returns-in-Hash-clause-deletes c =
    let s = store_of c.args.self.now in
    let opened = sections_of c.args.opened.now in
    let new = store_of c.remove.new.self in
    IfOk-weaker c.remove.result (λ ret. Removes c.lookup-found.result opened ret s new)
    (λ ret. c.args.map < length c.args.self.now.maps.items → Deletes s opened c.args.map c.args.key.now ret new)
    (λ ret r there. deletes-hash s opened c.args.map (map_of c.index.result.now) c.args.key.now c.lookup-found.result
    ret new c.in-Hash.is (map-at (goal.at.returns-in-Hash-clause-deletes c).After-index there)
    c.lookup-found.ensures r)
    c.remove.ensures.removes

pub returns-in-Array-clause-deletes : goal.returns-in-Array-clause-deletes
returns-in-Array-clause-deletes c = λ there.
    deletes-array (store_of c.args.self.now) (sections_of c.args.opened.now) c.args.map (map_of c.index.result.now)
    c.args.key.now c.lookup-found.result c.in-Array.is
    (map-at (goal.at.returns-in-Array-clause-deletes c).After-index there) c.lookup-found.ensures

pub returns-in-Array-clause-oldest : goal.returns-in-Array-clause-oldest
returns-in-Array-clause-oldest c = no-birth (store_of c.args.self.now) (store_of c.args.self.now) (omega arith)
