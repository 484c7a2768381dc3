use Rattle.bpf_model.proofs.Prelude.{subst, sym, err_from_is_err_and}
use Rattle.worker_pool.specs.Outcomes.{contexts_of, AreJobsOn}
use Rattle.worker_pool.proofs.repeated.run_beside.Goals as goal

pub returns-in_err-apart-clause-part : goal.returns-in_err-apart-clause-part
returns-in_err-apart-clause-part g c =
    let v = c.args.program.verified in
    let contexts = contexts_of c.args.contexts.now in
    let are = subst (AreJobsOn contexts) (sym c.deref.ensures.value) c.in-Ok.ensures in
    let p = err_from_is_err_and c.from_residual.result c.from_residual.ensures.1 in
    rw (p.1, p.2) (c.in_err-apart.ensures.part v.program v.shapes contexts
    (record { only = record { code = c.in-Ok-shared.ensures.codes; maps = c.in-Ok-shared.ensures.shapes }; are = are }))

pub returns-clause-written : goal.returns-clause-written
returns-clause-written g c =
    let v = c.args.program.verified in
    let contexts = contexts_of c.args.contexts.now in
    let are = subst (AreJobsOn contexts) (sym c.deref.ensures.value) c.in-Ok.ensures in
    c.in_ok-apart.ensures.written v.program v.shapes contexts
    (record { only = record { code = c.in-Ok-shared.ensures.codes; maps = c.in-Ok-shared.ensures.shapes }; are = are })
