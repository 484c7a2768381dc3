use Rattle.bpf_model.proofs.Prelude.{[], ◌∷◌, refl}
use Rattle.map_table.proofs.Prelude.{Put}
use Rattle.host_tables.proofs.Tidy.{unlinked_tidy}
use Rattle.host_tables.proofs.writing.unlink.Goals as goal

pub returns-clause-tidy : goal.returns-clause-tidy
returns-clause-tidy c =
    let s = c.is_writers.ensures in
    let e = c.unlink.ensures in
    unlinked_tidy c.args.writer.now c.unlink.new.self (Put c.args.way 0 ∷ []) s.me s.shape s.known e.step c.args.way e.unlinked.0 refl e.unlinked.2
