use Rattle.table_words.proofs.Prelude.{◌-◌, refl, sym, ap, ◌∙◌, opened}
use Rattle.map_table.proofs.Prelude.{Open, TableView, Holder}
use Rattle.map_table.proofs.Calls.{does, section_within, opens_at, seat_kept, small_even, next_even}
use Rattle.map_table.proofs.table.MapTable.open.Goals as goal

pub even_after-even-requires : goal.even_after-even-requires
even_after-even-requires c = record { small = small_even (opened c.seat.inside.seat.me.0.mine) c.seat.inside.even c.seat.invariant.4 }

pub store-requires : goal.store-requires
store-requires c =
    let p = ap (λ (h : Holder). h.table) c.seat.view_is ∙ (c.requires.table ∙ sym c.self.view_is) in
    let i = c.seat.invariant in
    let t = c.self.invariant in
    let same = ap (λ (q : TableView). q.shape) p in
    let even = next_even (opened c.seat.inside.seat.me.0.mine) c.seat.inside.even c.even_after-even.result i.4
    c.even_after-even.ensures.counts c.even_after-even.ensures.stops in
    (ap (λ (q : TableView). q.id) p, section_within _ _ _ _ _ same i.0 i.1 t.1, opens_at _ _ _ _ _ _ _ (same ∙ sym t.0) i.0 i.1 (ap (λ z. z - 1) even))

pub invariant_of-seat : goal.invariant_of-seat
invariant_of-seat c =
    let i = c.seat.invariant in
    let even = next_even (opened c.seat.inside.seat.me.0.mine) c.seat.inside.even c.even_after-even.result i.4
    c.even_after-even.ensures.counts c.even_after-even.ensures.stops in
    seat_kept _ _ Open _ _ c.seat.inside.even c.even_after-even.result c.store.ensures.2.0 c.store.ensures.2.1 i even

pub returns : goal.returns
returns c = does _ _ _ _ _ Open Open c.seat.view_is c.store.ensures.0 refl c.store.ensures.2.0
