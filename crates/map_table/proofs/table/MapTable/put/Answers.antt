use Rattle.table_words.proofs.Prelude.{◌≡◌, ◌⊎◌, ◌<◌, sym, ap, ◌∙◌, subst, Settles, MayLink}
use Rattle.map_table.proofs.Prelude.{Put, TableShape, layout_of, ways_of, TableView}
use Rattle.map_table.proofs.Calls.{way_back, way_within, puts_at}
use Rattle.map_table.proofs.Going.{went_as}
use Rattle.map_table.proofs.table.MapTable.put.Goals as goal

pub store-requires : goal.store-requires
store-requires c =
    let t = c.self.invariant in
    let id = ap (λ (q : TableView). q.id) c.self.view_is in
    let view = ap (λ (q : TableView). q.shape) c.self.view_is in
    let same = c.requires.table.1 ∙ sym view in
    let way = subst (λ (k : TableShape). c.args.way < ways_of k) (sym view) c.requires.way in
    let may = subst (λ (k : TableShape). (c.args.word ≡ 0) ⊎ MayLink (layout_of k) c.args.seat.now.me.0.seen c.args.way c.args.word)
    (sym view) c.requires.may in
    let settles = subst (λ (k : TableShape). Settles k.readers c.args.way c.args.word c.args.seat.now.me.0.mine) (sym view) c.requires.settles in (
      c.requires.table.0 ∙ sym id,
      way_within c.self.inside.shape c.self.inside.ways c.args.way _ t.5 way t.1,
      puts_at c.self.inside.shape c.self.inside.table.shared.key _ _ _ c.self.inside.ways c.args.way _ t.5 same (sym t.0) way c.requires.writer
          c.requires.known may settles,
    )

pub returns-clause-step : goal.returns-clause-step
returns-clause-step c =
    let t = c.self.invariant in
    let same = c.requires.table.1 ∙ sym (ap (λ (q : TableView). q.shape) c.self.view_is) in
    let move = ap (λ z. Put z c.args.word) (way_back _ c.self.inside.shape c.self.inside.ways c.args.way t.5 same) in
    went_as _ _ _ _ move c.store.ensures.2.0
