use Rattle.bpf_model.proofs.Prelude.{◌<◌, inl, sym, ap, ◌∙◌, subst}
use Rattle.read_table.proofs.Prelude.{width_of, TableView}
use Rattle.read_table.specs.declared.view.TableShape.{TableShape}
use Rattle.read_table.specs.declared.view.Move.TheVariants.{Load}
use Rattle.read_table.proofs.Calls.{load_found}
use Rattle.read_table.proofs.Going.{went_as}
use Rattle.read_table.proofs.Keeps.{loads_ok}
use Rattle.read_table.proofs.Places.{IsAt, load_move}
use Rattle.read_table.proofs.table.ReadTable.peek.Goals as goal

pub load-requires : goal.load-requires
load-requires c =
    let t = c.self.invariant in
    let id = ap (λ (q : TableView). q.id) c.self.view_is in
    let own = subst (λ (q : TableView). IsAt q.shape c.index_of-index.result c.args.slot c.args.place) (sym c.self.view_is) c.index_of-index.ensures.index in
    let l = subst (λ (k : TableShape). c.args.place < width_of k) (sym t.0)
    (subst (λ (q : TableView). c.args.place < width_of q.shape) (sym c.self.view_is) c.requires.place) in
    let low = subst (λ (k : TableShape). c.args.slot < k.slots) (sym t.0)
    (subst (λ (q : TableView). c.args.slot < q.shape.slots) (sym c.self.view_is) c.requires.slot) in
    let at = subst (λ (k : TableShape). IsAt k c.index_of-index.result c.args.slot c.args.place) (sym t.0) own in (
      c.requires.table.0 ∙ sym id,
      subst (λ (q : TableView). c.index_of-index.result < q.id.words) (sym c.self.view_is)
          c.index_of-index.ensures.within,
      loads_ok _ _ _ _ _ c.args.slot c.args.place at low l (inl c.requires.writer),
    )

pub returns-clause-step : goal.returns-clause-step
returns-clause-step c =
    let shape = c.requires.table.1 ∙ sym (ap (λ (q : TableView). q.shape) c.self.view_is) in
    let own = subst (λ (q : TableView). IsAt q.shape c.index_of-index.result c.args.slot c.args.place) (sym c.self.view_is) c.index_of-index.ensures.index in
    let l = subst (λ (q : TableView). c.args.place < width_of q.shape) (sym c.self.view_is) c.requires.place in
    went_as _ _ _ (Load c.args.slot c.args.place c.load.result) (load_move _ _ _ _ _ _ shape own l) c.load.ensures.2.1

pub returns-clause-found : goal.returns-clause-found
returns-clause-found c =
    let shape = c.requires.table.1 ∙ sym (ap (λ (q : TableView). q.shape) c.self.view_is) in
    let own = subst (λ (q : TableView). IsAt q.shape c.index_of-index.result c.args.slot c.args.place) (sym c.self.view_is) c.index_of-index.ensures.index in
    let l = subst (λ (q : TableView). c.args.place < width_of q.shape) (sym c.self.view_is) c.requires.place in
    load_found _ _ _ c.args.slot c.args.place _ (load_move _ _ _ _ _ _ shape own l) c.load.ensures.2.1
