use Rattle.bpf_model.proofs.Prelude.{ℕ, Option, sym, subst, IfErr}
use Rattle.host_tables.specs.Tables.{IsNoRoom}
use Rattle.host_tables.proofs.writing.put_under.Goals as goal

pub returns-in-None-clause-fault : goal.returns-in-None-clause-fault
returns-in-None-clause-fault c =
    subst (λ (f : Option ℕ). IfErr c.link_new.result (IsNoRoom c.args.key.now f c.args.writer.now c.link_new.new.writer)) (sym c.in-None.is)
    c.link_new.ensures.fault
