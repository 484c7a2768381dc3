use Rattle.bpf_model.proofs.Prelude.{◌<◌, inr, sym, ap, ◌∙◌, subst}
use Rattle.read_table.proofs.Prelude.{IsLearnt, width_of, TableView, Holder}
use Rattle.read_table.specs.declared.view.TableShape.{TableShape}
use Rattle.read_table.proofs.Keeps.{loads_ok}
use Rattle.read_table.proofs.Places.{IsAt, load_move}
use Rattle.read_table.proofs.Calls.{does, load_unchanged, load_found}
use Rattle.read_table.proofs.table.ReadTable.load.Goals as goal

pub load-requires : goal.load-requires
load-requires c =
    let p = ap (λ (h : Holder). h.table) c.seat.view_is ∙ (c.requires.table ∙ sym c.self.view_is) in
    let t = c.self.invariant in
    let known = subst (λ (h : Holder). IsLearnt c.args.slot h.view.mine) (sym c.seat.view_is) c.requires.learnt in
    let own = subst (λ (q : TableView). IsAt q.shape c.index_of-index.result c.args.slot c.args.place) (sym c.self.view_is) c.index_of-index.ensures.index in
    let at = subst (λ (k : TableShape). IsAt k c.index_of-index.result c.args.slot c.args.place) (sym t.0) own in
    let l = subst (λ (k : TableShape). c.args.place < width_of k) (sym t.0)
    (subst (λ (q : TableView). c.args.place < width_of q.shape) (sym c.self.view_is) c.requires.place) in
    let low = subst (λ (k : TableShape). c.args.slot < k.slots) (sym t.0)
    (subst (λ (q : TableView). c.args.slot < q.shape.slots) (sym c.self.view_is) c.requires.slot) in (
      ap (λ (q : TableView). q.id) p,
      subst (λ (q : TableView). c.index_of-index.result < q.id.words)
          (sym c.self.view_is) c.index_of-index.ensures.within,
      loads_ok _ _ _ _ _ c.args.slot c.args.place at low l (inr known),
    )

pub returns-clause-step : goal.returns-clause-step
returns-clause-step c =
    let p = ap (λ (h : Holder). h.table) c.seat.view_is ∙ (c.requires.table ∙ sym c.self.view_is) in
    let own = subst (λ (q : TableView). IsAt q.shape c.index_of-index.result c.args.slot c.args.place) (sym c.self.view_is) c.index_of-index.ensures.index in
    let l = subst (λ (q : TableView). c.args.place < width_of q.shape) (sym c.self.view_is) c.requires.place in
    does _ _ _ _ _ _ _ c.seat.view_is c.load.ensures.0 (load_move _ _ _ _ _ _ (ap (λ (q : TableView). q.shape) p) own l) c.load.ensures.2.1

pub returns-clause-unchanged : goal.returns-clause-unchanged
returns-clause-unchanged c = load_unchanged _ _ c.args.slot c.args.place c.load.result (returns-clause-step c) c.requires.learnt

pub returns-clause-found : goal.returns-clause-found
returns-clause-found c =
    let p = ap (λ (h : Holder). h.table) c.seat.view_is ∙ (c.requires.table ∙ sym c.self.view_is) in
    let own = subst (λ (q : TableView). IsAt q.shape c.index_of-index.result c.args.slot c.args.place) (sym c.self.view_is) c.index_of-index.ensures.index in
    let l = subst (λ (q : TableView). c.args.place < width_of q.shape) (sym c.self.view_is) c.requires.place in
    load_found _ _ _ c.args.slot c.args.place _ (load_move _ _ _ _ _ _ (ap (λ (q : TableView). q.shape) p) own l) c.load.ensures.2.1
