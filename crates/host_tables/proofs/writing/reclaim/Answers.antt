use Rattle.bpf_model.proofs.Prelude.{subst, sym}
use Rattle.map_table.proofs.Prelude.{TableView}
use Rattle.host_tables.specs.Tables.{Finds}
use Rattle.host_tables.proofs.Tidy.{freed_finds, freed_tidy}
use Rattle.host_tables.proofs.writing.reclaim.Goals as goal

pub returns-clause-tidy : goal.returns-clause-tidy
returns-clause-tidy c =
    let s = c.is_writers.ensures in
    let f = c.reclaim.ensures.freed in
    let l = c.reclaim.ensures.waits in
    freed_tidy f.0 c.args.writer.now c.reclaim.new.self l.0 s.me s.shape s.known f.2 l.1

pub returns-clause-finds : goal.returns-clause-finds
returns-clause-finds c key found finds =
    let s = c.is_writers.ensures in
    let l = c.reclaim.ensures.waits in
    subst (λ (t : TableView). Finds t.shape key found c.reclaim.new.self) c.requires.table
    (freed_finds c.args.writer.now c.reclaim.new.self l.0 s.me s.shape s.known l.1 key found
    (subst (λ (t : TableView). Finds t.shape key found c.args.writer.now) (sym c.requires.table) finds))
