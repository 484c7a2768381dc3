use Rattle.bpf_model.proofs.Prelude.{◌<◌, ◌≤◌, sym, ap, ◌∙◌, subst}
use Rattle.read_table.proofs.Prelude.{IsLearnt, width_of, TableView, Holder}
use Rattle.read_table.specs.declared.view.TableShape.{TableShape}
use Rattle.read_table.proofs.Places.{IsAt, store_move}
use Rattle.read_table.proofs.Calls.{does, stores_at, store_unchanged, store_left}
use Rattle.read_table.proofs.table.ReadTable.store.Goals as goal

pub store-requires : goal.store-requires
store-requires c =
    let p = ap (λ (h : Holder). h.table) c.seat.view_is ∙ (c.requires.table ∙ sym c.self.view_is) in
    let t = c.self.invariant in
    let known = subst (λ (h : Holder). IsLearnt c.args.slot h.view.mine) (sym c.seat.view_is) c.requires.learnt in
    let own = subst (λ (q : TableView). IsAt q.shape c.index_of-index.result c.args.slot c.args.place) (sym c.self.view_is) c.index_of-index.ensures.index in
    let at = subst (λ (k : TableShape). IsAt k c.index_of-index.result c.args.slot c.args.place) (sym t.0) own in
    let l = subst (λ (k : TableShape). c.args.place < width_of k) (sym t.0)
    (subst (λ (q : TableView). c.args.place < width_of q.shape) (sym c.self.view_is) c.requires.place) in
    let low = subst (λ (k : TableShape). c.args.slot < k.slots) (sym t.0)
    (subst (λ (q : TableView). c.args.slot < q.shape.slots) (sym c.self.view_is) c.requires.slot) in
    let in_value = subst (λ (k : TableShape). k.key_words ≤ c.args.place) (sym t.0)
    (subst (λ (q : TableView). q.shape.key_words ≤ c.args.place) (sym c.self.view_is) c.requires.value) in (
      ap (λ (q : TableView). q.id) p,
      subst (λ (q : TableView). c.index_of-index.result < q.id.words)
          (sym c.self.view_is) c.index_of-index.ensures.within,
      stores_at _ _ _ _ _ c.args.slot c.args.place _ at low in_value l known,
    )

pub returns-clause-step : goal.returns-clause-step
returns-clause-step c =
    let p = ap (λ (h : Holder). h.table) c.seat.view_is ∙ (c.requires.table ∙ sym c.self.view_is) in
    let own = subst (λ (q : TableView). IsAt q.shape c.index_of-index.result c.args.slot c.args.place) (sym c.self.view_is) c.index_of-index.ensures.index in
    let l = subst (λ (q : TableView). c.args.place < width_of q.shape) (sym c.self.view_is) c.requires.place in
    does _ _ _ _ _ _ _ c.seat.view_is c.store.ensures.0 (store_move _ _ _ _ _ _ (ap (λ (q : TableView). q.shape) p) own l) c.store.ensures.2.1

pub returns-clause-unchanged : goal.returns-clause-unchanged
returns-clause-unchanged c = store_unchanged _ _ c.args.slot c.args.place c.args.word (returns-clause-step c) c.requires.learnt

pub returns-clause-stored : goal.returns-clause-stored
returns-clause-stored c =
    let p = ap (λ (h : Holder). h.table) c.seat.view_is ∙ (c.requires.table ∙ sym c.self.view_is) in
    let own = subst (λ (q : TableView). IsAt q.shape c.index_of-index.result c.args.slot c.args.place) (sym c.self.view_is) c.index_of-index.ensures.index in
    let l = subst (λ (q : TableView). c.args.place < width_of q.shape) (sym c.self.view_is) c.requires.place in
    store_left _ _ _ c.args.slot c.args.place _ (store_move _ _ _ _ _ _ (ap (λ (q : TableView). q.shape) p) own l) c.store.ensures.2.1
