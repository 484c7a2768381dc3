use Rattle.table_words.proofs.Prelude.{◌<◌, sym, ap, ◌∙◌, subst, MayDouble}
use Rattle.map_table.proofs.Prelude.{TableShape, layout_of, ways_of, TableView}
use Rattle.map_table.proofs.Calls.{way_back, way_within, doubles_at}
use Rattle.map_table.proofs.Doubled.{doubled_move}
use Rattle.map_table.proofs.table.MapTable.double.Goals as goal

pub store-requires : goal.store-requires
store-requires c =
    let t = c.self.invariant in
    let id = ap (λ (q : TableView). q.id) c.self.view_is in
    let view = ap (λ (q : TableView). q.shape) c.self.view_is in
    let same = c.requires.table.1 ∙ sym view in
    let way = subst (λ (k : TableShape). c.args.to < ways_of k) (sym view) c.requires.to in
    let may = subst (λ (k : TableShape). MayDouble (layout_of k) c.args.seat.now.me.0.seen c.args.from c.args.to c.args.word)
    (sym view) c.requires.may in (
      c.requires.table.0 ∙ sym id,
      way_within c.self.inside.shape c.self.inside.ways c.args.to _ t.5 way t.1,
      doubles_at c.self.inside.shape c.self.inside.table.shared.key _ _ _ c.self.inside.ways c.args.from c.args.to _ t.5 same (sym t.0) way
          c.requires.writer c.requires.known may,
    )

pub returns-clause-step : goal.returns-clause-step
returns-clause-step c =
    let t = c.self.invariant in
    let same = c.requires.table.1 ∙ sym (ap (λ (q : TableView). q.shape) c.self.view_is) in
    let back = way_back _ c.self.inside.shape c.self.inside.ways c.args.to t.5 same in
    let d = c.store.ensures.2.0 in
    doubled_move c.args.self.now.shape _ _ c.args.from d.0 c.args.to _ c.args.word back c.requires.table.1 c.requires.writer c.requires.known c.requires.may d.1
