use Rattle.bpf_model.proofs.Prelude.{inr}
use Rattle.host_tables.specs.declared.fault.How.TheVariants.{Any}
use Rattle.host_tables.specs.Copies.{CopiesWay}
use Rattle.host_tables.specs.Tables.{Sets}
use Rattle.host_tables.proofs.Kept.{ok_then}
use Rattle.host_tables.proofs.copying.copy_way.Goals as goal

pub returns-clause-copies : goal.returns-clause-copies
returns-clause-copies c =
    let key = c.load_way.new.key in
    let words = c.load_way.new.words in
    let a = c.args.other_writer.now in
    let b = c.set_asked.new.writer in
    let l = c.load_way.ensures.loads c.if-not-load_way.false in
    ok_then c.set_asked.result (Sets key words Any a b)
    (CopiesWay c.args.way c.args.writer.now a c.load_way.new.writer b)
    (λ sets. inr record { key = key; words = words; met = l.0; loads_key = l.1; loads_values = l.2; sets = sets })
    c.set_asked.ensures.set
