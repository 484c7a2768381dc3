use Rattle.table_words.proofs.Prelude.{refl, sym, ap, ◌∙◌}
use Rattle.map_table.proofs.Prelude.{Close, TableView, Holder}
use Rattle.map_table.proofs.Calls.{does, section_within, closes_at, outside_word}
use Rattle.map_table.proofs.table.MapTable.close.Goals as goal

pub store-requires : goal.store-requires
store-requires c =
    let p = ap (λ (h : Holder). h.table) c.seat.view_is ∙ (c.requires.table ∙ sym c.self.view_is) in
    let i = c.seat.invariant in
    let t = c.self.invariant in
    let same = ap (λ (q : TableView). q.shape) p in (
      ap (λ (q : TableView). q.id) p,
      section_within _ _ _ _ _ same i.0 i.1 t.1,
      closes_at _ _ _ _ _ _ _ (same ∙ sym t.0) i.0 i.1
          (outside_word c.seat.inside.seat.me.0.mine c.seat.inside.even i.4),
    )

pub returns : goal.returns
returns c = does _ _ _ _ _ Close Close c.seat.view_is c.store.ensures.0 refl c.store.ensures.2.0
