use Rattle.bpf_model.proofs.Prelude.{ap, sym, subst, ◌∙◌}
use Rattle.map_table.proofs.Prelude.{WriterView}
use Rattle.host_tables.specs.Copies.{IsThere}
use Rattle.host_tables.specs.Tables.{OpenTable}
use Rattle.host_tables.proofs.Kept.{seat_kept, writer_knows}
use Rattle.host_tables.proofs.Tidy.{seated_tidy}
use Rattle.host_tables.proofs.table.HostTable.reader.Goals as goal

pub invariant_of-self-2 : goal.invariant_of-self-2
invariant_of-self-2 c =
    let e = c.is_writers.ensures in
    let m = c.in_ok-seat.ensures.makes in (
      ap (λ (w : WriterView). w.table) m.seated ∙ (m.looks.table ∙ c.self.invariant.0),
      seated_tidy c.self.inside.writer c.seat.new.self e.me e.shape e.known m c.self.invariant.1,
    )

pub returns-clause-stay : goal.returns-clause-stay
returns-clause-stay c key l =
    let e = c.is_writers.ensures in
    let v = c.self.inside.writer in
    let knows = writer_knows _ v _ c.self.view_is c.self.invariant.0 e.me e.shape e.known in
    let old = ap (λ (t : OpenTable). t.writer) c.self.view_is in
    seat_kept c.args.self.now.table.shape v c.seat.new.self knows c.in_ok-seat.ensures.makes key
    (subst (IsThere c.args.self.now.table.shape key) (sym old) l)
