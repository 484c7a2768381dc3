use Rattle.table_words.proofs.Prelude.{◌≡◌, ◌<◌, sym, ap, ◌∙◌, subst, inside}
use Rattle.map_table.proofs.Prelude.{Learn, ways_from, ways_of, TableView, Holder}
use Rattle.map_table.proofs.Calls.{does, learns_at, learn_named, learn_within, way_back, way_within}
use Rattle.map_table.proofs.table.MapTable.learn_behind.Goals as goal

pub load-requires : goal.load-requires
load-requires c =
    let p = ap (λ (h : Holder). h.table) c.seat.view_is ∙ (c.requires.table ∙ sym c.self.view_is) in
    let i = c.seat.invariant in
    let t = c.self.invariant in
    let ways = subst (λ (q : TableView). c.args.ways ≡ ways_from q.shape) (sym c.self.view_is) c.requires.ways in
    let same = ap (λ (q : TableView). q.shape) p in
    let way = subst (λ (q : TableView). c.args.way < ways_of q.shape) (sym c.self.view_is) c.requires.way in
    let one = subst (λ (h : Holder). inside h.view.mine ≡ 1) (sym c.seat.view_is) c.requires.inside in (
      ap (λ (q : TableView). q.id) p,
      way_within c.self.inside.shape c.args.ways c.args.way _ ways way t.1,
      learns_at c.self.inside.shape c.self.inside.table.shared.key _ _ _ c.args.ways c.args.way ways same (sym t.0) way i.0 one,
    )

pub returns-clause-step : goal.returns-clause-step
returns-clause-step c =
    let p = ap (λ (h : Holder). h.table) c.seat.view_is ∙ (c.requires.table ∙ sym c.self.view_is) in
    let t = c.self.invariant in
    let ways = subst (λ (q : TableView). c.args.ways ≡ ways_from q.shape) (sym c.self.view_is) c.requires.ways in
    let move = ap (λ z. Learn z c.load.result) (way_back _ c.self.inside.shape c.args.ways c.args.way ways (ap (λ (q : TableView). q.shape) p)) in
    does _ _ _ _ _ _ _ c.seat.view_is c.load.ensures.0 move c.load.ensures.2.0

pub returns-clause-named : goal.returns-clause-named
returns-clause-named c = λ some.
    let p = ap (λ (h : Holder). h.table) c.seat.view_is ∙ (c.requires.table ∙ sym c.self.view_is) in
    let ways = subst (λ (q : TableView). c.args.ways ≡ ways_from q.shape) (sym c.self.view_is) c.requires.ways in
    let move = ap (λ z. Learn z c.load.result) (way_back _ c.self.inside.shape c.args.ways c.args.way ways (ap (λ (q : TableView). q.shape) p)) in
    learn_named _ _ _ c.args.way c.load.result move c.load.ensures.2.0 some

pub returns-clause-within : goal.returns-clause-within
returns-clause-within c = λ element names.
    let p = ap (λ (h : Holder). h.table) c.seat.view_is ∙ (c.requires.table ∙ sym c.self.view_is) in
    let t = c.self.invariant in
    let ways = subst (λ (q : TableView). c.args.ways ≡ ways_from q.shape) (sym c.self.view_is) c.requires.ways in
    let same = ap (λ (q : TableView). q.shape) p in
    let move = ap (λ z. Learn z c.load.result) (way_back _ c.self.inside.shape c.args.ways c.args.way ways same) in
    subst (λ (q : TableView). element < q.shape.elements) (p ∙ c.self.view_is)
    (learn_within _ _ _ c.args.way c.load.result element move c.load.ensures.2.0 names)
