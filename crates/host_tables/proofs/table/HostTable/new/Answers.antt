use Rattle.bpf_model.proofs.Prelude.{rules}
use Rattle.host_tables.proofs.Tidy.{first_tidy}
use Rattle.host_tables.proofs.table.HostTable.new.Goals as goal

pub invariant_of-result : goal.invariant_of-result
invariant_of-result c =
    let t = c.in_ok-table.ensures in
    let e = c.is_writers.ensures in (
      search rules,
      first_tidy c.in_ok-table.writer c.args.shape.elements e.me e.known t.new_writer (search rules) t.free,
    )
