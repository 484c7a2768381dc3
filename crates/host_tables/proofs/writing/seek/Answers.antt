use Rattle.bpf_model.proofs.Prelude.{refl}
use Rattle.map_table.proofs.Prelude.{layout_of}
use Rattle.host_tables.proofs.Seeking.{finds_so, seeks_so}
use Rattle.host_tables.proofs.Tidy.{searched_tidy}
use Rattle.host_tables.proofs.writing.seek.Goals as goal

pub returns-clause-finds : goal.returns-clause-finds
returns-clause-finds c = finds_so c.args.table.now.shape c.args.key.now c.find.result c.find.new.self c.find.ensures.found c.find.ensures.none

pub returns-clause-seeks : goal.returns-clause-seeks
returns-clause-seeks c =
    let f = c.find.ensures in
    seeks_so c.args.table.now c.args.key.now c.find.result c.args.writer.now c.find.new.self c.requires.table f.steps.0 f.steps.1 f.steps.2
    f.free f.unlinked (finds_so c.args.table.now.shape c.args.key.now c.find.result c.find.new.self f.found f.none)

pub returns-clause-tidy : goal.returns-clause-tidy
returns-clause-tidy c =
    let s = c.is_writers.ensures in
    let f = c.find.ensures in
    searched_tidy (layout_of c.args.table.now.shape) c.args.writer.now c.args.writer.now c.find.new.self f.steps.0 refl s.me s.shape s.known
    f.steps.1 f.steps.2 f.free f.unlinked
