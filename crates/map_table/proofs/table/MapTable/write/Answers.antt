use Rattle.table_words.proofs.Prelude.{◌<◌, sym, ap, ◌∙◌, subst, IsSpare}
use Rattle.map_table.proofs.Prelude.{TableShape, Store, width_of, TableView}
use Rattle.map_table.proofs.Places.{IsAt, store_move}
use Rattle.map_table.proofs.Calls.{writes_at}
use Rattle.map_table.proofs.Going.{went_as}
use Rattle.map_table.proofs.table.MapTable.write.Goals as goal

pub store-requires : goal.store-requires
store-requires c =
    let t = c.self.invariant in
    let id = ap (λ (q : TableView). q.id) c.self.view_is in
    let shape = c.requires.table.1 ∙ sym (ap (λ (q : TableView). q.shape) c.self.view_is) in
    let own = subst (λ (q : TableView). IsAt q.shape c.index_of-index.result c.args.element c.args.place) (sym c.self.view_is) c.index_of-index.ensures.index in
    let l = subst (λ (k : TableShape). c.args.place < width_of k) (sym t.0)
    (subst (λ (q : TableView). c.args.place < width_of q.shape) (sym c.self.view_is) c.requires.place) in
    let low = subst (λ (k : TableShape). c.args.element < k.elements) (sym t.0)
    (subst (λ (q : TableView). c.args.element < q.shape.elements) (sym c.self.view_is) c.requires.element) in
    let spare = subst (λ (k : TableShape). IsSpare k.readers c.args.element c.args.seat.now.me.0.mine) (sym t.0)
    (subst (λ (q : TableView). IsSpare q.shape.readers c.args.element c.args.seat.now.me.0.mine) (sym c.self.view_is) c.requires.spare) in
    let at = subst (λ (k : TableShape). IsAt k c.index_of-index.result c.args.element c.args.place) (sym t.0) own in (
      c.requires.table.0 ∙ sym id,
      subst (λ (q : TableView). c.index_of-index.result < q.id.words) (sym c.self.view_is)
          c.index_of-index.ensures.within,
      writes_at c.self.inside.table.shared.key _ _ _ _ c.args.element c.args.place _ at low l
          c.requires.writer spare,
    )

pub returns-clause-step : goal.returns-clause-step
returns-clause-step c =
    let shape = c.requires.table.1 ∙ sym (ap (λ (q : TableView). q.shape) c.self.view_is) in
    let own = subst (λ (q : TableView). IsAt q.shape c.index_of-index.result c.args.element c.args.place) (sym c.self.view_is) c.index_of-index.ensures.index in
    let l = subst (λ (q : TableView). c.args.place < width_of q.shape) (sym c.self.view_is) c.requires.place in
    went_as _ _ _ (Store c.args.element c.args.place c.args.word) (store_move c.args.seat.now.me.0.shape c.self.inside.shape _ _ _ _ shape own l)
    c.store.ensures.2.1
