use Rattle.table_words.proofs.Prelude.{◌<◌, sym, ap, ◌∙◌, subst, arith}
use Rattle.map_table.proofs.Prelude.{TableView}
use Rattle.map_table.proofs.Keeps.{deals_ok}
use Rattle.map_table.proofs.table.MapTable.deal.Goals as goal

pub split_seat-seat-requires : goal.split_seat-seat-requires
split_seat-seat-requires c =
    let t = c.self.invariant in
    let id = ap (λ (q : TableView). q.id) c.self.view_is in
    let words = t.1 in
    let low : c.args.reader < c.self.inside.shape.readers = subst (λ (q : TableView). c.args.reader < q.shape.readers) (sym c.self.view_is) c.requires.within in
    (c.requires.table.0 ∙ sym id, omega arith, deals_ok _ _ _ c.requires.writer.0)
