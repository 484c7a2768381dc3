use Rattle.bpf_model.proofs.Prelude.{rules, ◌<◌}
use Rattle.map_table.proofs.Prelude.{ways_of}
use Rattle.host_tables.specs.Copies.{StopsCopying}
use Rattle.host_tables.proofs.copying.copy_all.Goals as goal

pub returns-in_err-copy_way-clause-fault : goal.returns-in_err-copy_way-clause-fault
returns-in_err-copy_way-clause-fault c =
    let k = c.args.table.now.shape in
    let at = c.loop-way.way in
    let some : at < ways_of k = search rules in
    let stopped : StopsCopying k c.args.writer.now c.args.other_writer.now c.copy_way.new.writer c.copy_way.new.other_writer c.in_err-copy_way.field-0.0 =
    record {
      count = at;
      some = some;
      u = c.loop-way.writer;
      c = c.loop-way.other_writer;
      copies = c.loop-way.invariant.2;
      stops = c.in_err-copy_way.ensures.fault;
    } in
    search rules
