use Rattle.bpf_model.proofs.Prelude.{refl}
use Rattle.host_tables.specs.Tables.{IsAsked}
use Rattle.host_tables.proofs.Seeking.{asked_some, asked_none, not_set}
use Rattle.host_tables.proofs.writing.set_asked.Goals.{in_default-via-in-Some+in_default, in_default-via-in-None+in_default}
use Rattle.host_tables.proofs.writing.set_asked.Goals as goal

pub returns-in_default-clause-fault : goal.returns-in_default-clause-fault
returns-in_default-clause-fault c =
    let found = c.seek-found.result in
    let asked : IsAsked c.args.how found = elim c.in_default.branch [
      | in_default-via-in-Some+in_default w ↦ asked_some c.args.how found w.in_default.field-0-0 w.in_default.is-0 w.in_default.not-New-1
      | in_default-via-in-None+in_default w ↦ asked_none c.args.how found w.in_default.is-0 w.in_default.not-Present-1
    ] in
    not_set c.args.key.now c.args.how found c.args.writer.now c.args.writer.now c.seek-found.new.writer c.set_found.new.writer c.set_found.result
    refl c.seek-found.ensures.seeks asked c.set_found.ensures.fault
