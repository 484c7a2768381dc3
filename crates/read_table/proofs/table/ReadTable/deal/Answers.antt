use Rattle.bpf_model.proofs.Prelude.{ℕ, ◌<◌, sym, ap, ◌∙◌, subst, arith}
use Rattle.read_table.proofs.Prelude.{TableView}
use Rattle.atomic_table.specs.Table.{Me}
use Rattle.read_table.specs.declared.view.View.{View}
use Rattle.read_table.proofs.Keeps.{deals_ok}
use Rattle.read_table.proofs.table.ReadTable.deal.Goals as goal

pub split_seat-seat-requires : goal.split_seat-seat-requires
split_seat-seat-requires c =
    let t = c.self.invariant in
    let id = ap (λ (q : TableView). q.id) c.self.view_is in
    let words = t.1 in
    let low : c.args.reader < c.self.inside.shape.readers = subst (λ (q : TableView). c.args.reader < q.shape.readers) (sym c.self.view_is) c.requires.within in
    (c.requires.table ∙ sym id, omega arith, deals_ok _ _ _ (ap (λ (m : Me ℕ View). m.0.me) c.requires.writer))
