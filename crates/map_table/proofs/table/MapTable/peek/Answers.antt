use Rattle.table_words.proofs.Prelude.{◌<◌, inl, sym, ap, ◌∙◌, subst}
use Rattle.map_table.proofs.Prelude.{TableShape, Load, width_of, TableView}
use Rattle.map_table.proofs.Calls.{load_found}
use Rattle.map_table.proofs.Going.{went_as}
use Rattle.map_table.proofs.Keeps.{loads_ok}
use Rattle.map_table.proofs.Places.{IsAt, load_move}
use Rattle.map_table.proofs.table.MapTable.peek.Goals as goal

pub load-requires : goal.load-requires
load-requires c =
    let t = c.self.invariant in
    let id = ap (λ (q : TableView). q.id) c.self.view_is in
    let own = subst (λ (q : TableView). IsAt q.shape c.index_of-index.result c.args.element c.args.place) (sym c.self.view_is) c.index_of-index.ensures.index in
    let l = subst (λ (k : TableShape). c.args.place < width_of k) (sym t.0)
    (subst (λ (q : TableView). c.args.place < width_of q.shape) (sym c.self.view_is) c.requires.place) in
    let low = subst (λ (k : TableShape). c.args.element < k.elements) (sym t.0)
    (subst (λ (q : TableView). c.args.element < q.shape.elements) (sym c.self.view_is) c.requires.element) in
    let at = subst (λ (k : TableShape). IsAt k c.index_of-index.result c.args.element c.args.place) (sym t.0) own in (
      c.requires.table.0 ∙ sym id,
      subst (λ (q : TableView). c.index_of-index.result < q.id.words) (sym c.self.view_is)
          c.index_of-index.ensures.within,
      loads_ok c.self.inside.table.shared.key _ _ _ _ c.args.element c.args.place at low l (inl c.requires.writer),
    )

pub returns-clause-step : goal.returns-clause-step
returns-clause-step c =
    let shape = c.requires.table.1 ∙ sym (ap (λ (q : TableView). q.shape) c.self.view_is) in
    let own = subst (λ (q : TableView). IsAt q.shape c.index_of-index.result c.args.element c.args.place) (sym c.self.view_is) c.index_of-index.ensures.index in
    let l = subst (λ (q : TableView). c.args.place < width_of q.shape) (sym c.self.view_is) c.requires.place in
    went_as _ _ _ (Load c.args.element c.args.place c.load.result) (load_move c.args.seat.now.me.0.shape c.self.inside.shape _ _ _ _ shape own l)
    c.load.ensures.2.1

pub returns-clause-found : goal.returns-clause-found
returns-clause-found c =
    let shape = c.requires.table.1 ∙ sym (ap (λ (q : TableView). q.shape) c.self.view_is) in
    let own = subst (λ (q : TableView). IsAt q.shape c.index_of-index.result c.args.element c.args.place) (sym c.self.view_is) c.index_of-index.ensures.index in
    let l = subst (λ (q : TableView). c.args.place < width_of q.shape) (sym c.self.view_is) c.requires.place in
    load_found _ _ _ c.args.element c.args.place _ (load_move c.args.seat.now.me.0.shape c.self.inside.shape _ _ _ _ shape own l) c.load.ensures.2.1
