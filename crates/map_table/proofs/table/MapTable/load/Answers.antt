use Rattle.table_words.proofs.Prelude.{◌<◌, inr, sym, ap, ◌∙◌, subst, Holds}
use Rattle.map_table.proofs.Prelude.{TableShape, width_of, TableView, Holder}
use Rattle.map_table.proofs.Keeps.{loads_ok}
use Rattle.map_table.proofs.Places.{IsAt, load_move}
use Rattle.map_table.proofs.Calls.{does, load_found}
use Rattle.map_table.proofs.table.MapTable.load.Goals as goal

pub load-requires : goal.load-requires
load-requires c =
    let p = ap (λ (h : Holder). h.table) c.seat.view_is ∙ (c.requires.table ∙ sym c.self.view_is) in
    let t = c.self.invariant in
    let known = subst (λ (h : Holder). Holds c.args.element h.view.mine) (sym c.seat.view_is) c.requires.held in
    let own = subst (λ (q : TableView). IsAt q.shape c.index_of-index.result c.args.element c.args.place) (sym c.self.view_is) c.index_of-index.ensures.index in
    let at = subst (λ (k : TableShape). IsAt k c.index_of-index.result c.args.element c.args.place) (sym t.0) own in
    let l = subst (λ (k : TableShape). c.args.place < width_of k) (sym t.0)
    (subst (λ (q : TableView). c.args.place < width_of q.shape) (sym c.self.view_is) c.requires.place) in
    let low = subst (λ (k : TableShape). c.args.element < k.elements) (sym t.0)
    (subst (λ (q : TableView). c.args.element < q.shape.elements) (sym c.self.view_is) c.requires.element) in (
      ap (λ (q : TableView). q.id) p,
      subst (λ (q : TableView). c.index_of-index.result < q.id.words)
          (sym c.self.view_is) c.index_of-index.ensures.within,
      loads_ok c.self.inside.table.shared.key _ _ _ _ c.args.element c.args.place at low l (inr known),
    )

pub returns-clause-step : goal.returns-clause-step
returns-clause-step c =
    let p = ap (λ (h : Holder). h.table) c.seat.view_is ∙ (c.requires.table ∙ sym c.self.view_is) in
    let own = subst (λ (q : TableView). IsAt q.shape c.index_of-index.result c.args.element c.args.place) (sym c.self.view_is) c.index_of-index.ensures.index in
    let l = subst (λ (q : TableView). c.args.place < width_of q.shape) (sym c.self.view_is) c.requires.place in
    does _ _ _ _ _ _ _ c.seat.view_is c.load.ensures.0 (load_move _ c.self.inside.shape _ _ _ _ (ap (λ (q : TableView). q.shape) p) own l) c.load.ensures.2.1

pub returns-clause-found : goal.returns-clause-found
returns-clause-found c =
    let p = ap (λ (h : Holder). h.table) c.seat.view_is ∙ (c.requires.table ∙ sym c.self.view_is) in
    let own = subst (λ (q : TableView). IsAt q.shape c.index_of-index.result c.args.element c.args.place) (sym c.self.view_is) c.index_of-index.ensures.index in
    let l = subst (λ (q : TableView). c.args.place < width_of q.shape) (sym c.self.view_is) c.requires.place in
    load_found _ _ _ c.args.element c.args.place _ (load_move _ c.self.inside.shape _ _ _ _ (ap (λ (q : TableView). q.shape) p) own l) c.load.ensures.2.1
