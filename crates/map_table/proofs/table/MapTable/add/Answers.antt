use Rattle.table_words.proofs.Prelude.{ℕ, ◌+◌, ◌<◌, ◌≤◌, sym, ap, ◌∙◌, subst, Holds, IsReader}
use Rattle.map_table.proofs.Prelude.{TableShape, layout_of, width_of, first_of, TableView, Holder}
use Rattle.map_table.proofs.Places.{IsAt, load_move, store_move}
use Rattle.map_table.proofs.Adding.{adds_at, does_both, sum_left, seat_kept_both}
use Rattle.map_table.proofs.Valued.{in_element}
use Rattle.map_table.proofs.table.MapTable.add.Goals as goal

pub index_of-index-requires : goal.index_of-index-requires
index_of-index-requires c =
    let reader = subst (λ (q : TableView). IsReader (layout_of q.shape) c.args.seat.now.view.me) c.requires.table
    (subst (λ (h : Holder). IsReader (layout_of h.table.shape) h.view.me) c.seat.view_is c.seat.invariant.0) in
    record {
      element = c.requires.element;
      place = in_element c.args.self.now.shape c.args.seat.now.view.me c.args.place reader c.requires.value c.requires.place;
    }

pub fetch_add-requires : goal.fetch_add-requires
fetch_add-requires c =
    let p = ap (λ (h : Holder). h.table) c.seat.view_is ∙ (c.requires.table ∙ sym c.self.view_is) in
    let t = c.self.invariant in
    let known = subst (λ (h : Holder). Holds c.args.element h.view.mine) (sym c.seat.view_is) c.requires.held in
    let own = subst (λ (q : TableView). IsAt q.shape c.index_of-index.result c.args.element c.args.place) (sym c.self.view_is) c.index_of-index.ensures.index in
    let at = subst (λ (k : TableShape). IsAt k c.index_of-index.result c.args.element c.args.place) (sym t.0) own in
    let low = subst (λ (k : TableShape). c.args.element < k.elements) (sym t.0)
    (subst (λ (q : TableView). c.args.element < q.shape.elements) (sym c.self.view_is) c.requires.element) in
    let key = ap (λ (q : TableView). q.shape) (sym c.self.view_is) ∙ sym t.0 in
    let me = ap (λ (h : Holder). h.view.me) (sym c.seat.view_is) in
    let shape = ap (λ (q : TableView). q.shape) p ∙ sym t.0 in
    let reader = subst (λ (k : TableShape). IsReader (layout_of k) c.seat.inside.seat.me.0.me) shape c.seat.invariant.0 in
    let from = subst (λ (z : TableShape × ℕ). first_of z.0 z.1 ≤ c.args.place) (λ i. (key i, me i)) c.requires.value in
    let below = subst (λ (z : TableShape × ℕ). c.args.place < first_of z.0 z.1 + z.0.value_words) (λ i. (key i, me i)) c.requires.place in (
      ap (λ (q : TableView). q.id) p,
      subst (λ (q : TableView). c.index_of-index.result < q.id.words)
          (sym c.self.view_is) c.index_of-index.ensures.within,
      adds_at c.self.inside.table.shared.key _ _ _ _ c.args.element c.args.place _ at low reader from below known,
    )

pub invariant_of-seat : goal.invariant_of-seat
invariant_of-seat c = seat_kept_both _ _ _ _ _ _ _ _ _ _ c.fetch_add.ensures.2.1 c.fetch_add.ensures.2.2 c.seat.invariant

pub returns-clause-step : goal.returns-clause-step
returns-clause-step c =
    let p = ap (λ (h : Holder). h.table) c.seat.view_is ∙ (c.requires.table ∙ sym c.self.view_is) in
    let own = subst (λ (q : TableView). IsAt q.shape c.index_of-index.result c.args.element c.args.place) (sym c.self.view_is) c.index_of-index.ensures.index in
    let reader = subst (λ (q : TableView). IsReader (layout_of q.shape) c.args.seat.now.view.me) c.requires.table
    (subst (λ (h : Holder). IsReader (layout_of h.table.shape) h.view.me) c.seat.view_is c.seat.invariant.0) in
    let l = subst (λ (q : TableView). c.args.place < width_of q.shape) (sym c.self.view_is)
    (in_element c.args.self.now.shape c.args.seat.now.view.me c.args.place reader c.requires.value c.requires.place) in
    let shape = ap (λ (q : TableView). q.shape) p in
    does_both _ _ _ _ _ _ _ _ _ c.seat.view_is c.fetch_add.ensures.0 (load_move _ c.self.inside.shape _ _ _ _ shape own l)
    (store_move _ c.self.inside.shape _ _ _ _ shape own l) c.fetch_add.ensures.2.1

pub returns-clause-stored : goal.returns-clause-stored
returns-clause-stored c =
    let p = ap (λ (h : Holder). h.table) c.seat.view_is ∙ (c.requires.table ∙ sym c.self.view_is) in
    let own = subst (λ (q : TableView). IsAt q.shape c.index_of-index.result c.args.element c.args.place) (sym c.self.view_is) c.index_of-index.ensures.index in
    let reader = subst (λ (q : TableView). IsReader (layout_of q.shape) c.args.seat.now.view.me) c.requires.table
    (subst (λ (h : Holder). IsReader (layout_of h.table.shape) h.view.me) c.seat.view_is c.seat.invariant.0) in
    let l = subst (λ (q : TableView). c.args.place < width_of q.shape) (sym c.self.view_is)
    (in_element c.args.self.now.shape c.args.seat.now.view.me c.args.place reader c.requires.value c.requires.place) in
    sum_left _ _ _ _ c.args.element c.args.place _ (store_move _ c.self.inside.shape _ _ _ _ (ap (λ (q : TableView). q.shape) p) own l)
    c.fetch_add.ensures.2.1
