use Rattle.bpf_model.proofs.Prelude.{◌<◌, sym, ap, ◌∙◌, subst}
use Rattle.read_table.proofs.Prelude.{width_of, TableView}
use Rattle.read_table.specs.declared.view.TableShape.{TableShape}
use Rattle.read_table.specs.declared.view.Move.TheVariants.{Store}
use Rattle.read_table.proofs.Places.{IsAt, store_move}
use Rattle.read_table.proofs.Calls.{writes_at}
use Rattle.read_table.proofs.Going.{went_as}
use Rattle.read_table.proofs.table.ReadTable.write.Goals as goal

pub store-requires : goal.store-requires
store-requires c =
    let t = c.self.invariant in
    let id = ap (λ (q : TableView). q.id) c.self.view_is in
    let shape = c.requires.table.1 ∙ sym (ap (λ (q : TableView). q.shape) c.self.view_is) in
    let own = subst (λ (q : TableView). IsAt q.shape c.index_of-index.result c.args.slot c.args.place) (sym c.self.view_is) c.index_of-index.ensures.index in
    let l = subst (λ (k : TableShape). c.args.place < width_of k) (sym t.0)
    (subst (λ (q : TableView). c.args.place < width_of q.shape) (sym c.self.view_is) c.requires.place) in
    let at = subst (λ (k : TableShape). IsAt k c.index_of-index.result c.args.slot c.args.place) (sym t.0) own in (
      c.requires.table.0 ∙ sym id,
      subst (λ (q : TableView). c.index_of-index.result < q.id.words) (sym c.self.view_is)
          c.index_of-index.ensures.within,
      writes_at _ _ _ _ _ c.args.slot c.args.place _ (shape ∙ sym t.0) at l
          c.requires.writer c.requires.free,
    )

pub returns-clause-step : goal.returns-clause-step
returns-clause-step c =
    let shape = c.requires.table.1 ∙ sym (ap (λ (q : TableView). q.shape) c.self.view_is) in
    let own = subst (λ (q : TableView). IsAt q.shape c.index_of-index.result c.args.slot c.args.place) (sym c.self.view_is) c.index_of-index.ensures.index in
    let l = subst (λ (q : TableView). c.args.place < width_of q.shape) (sym c.self.view_is) c.requires.place in
    went_as _ _ _ (Store c.args.slot c.args.place c.args.word) (store_move _ _ _ _ _ _ shape own l) c.store.ensures.2.1
