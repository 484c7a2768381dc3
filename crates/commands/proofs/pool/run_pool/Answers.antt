use Rattle.bpf_model.proofs.Prelude.{◌≡◌, ℕ, List, arith, inl, refl, subst, sym, Ok, IfSome_then}
use Rattle.program_files.specs.Verdicts.{memory_number}
use Rattle.job_queue.specs.declared.fault.PoolFault.TheVariants.{Lost}
use Rattle.job_queue.specs.Faults.{pool_fault_number}
use Rattle.commands.specs.declared.refusal.CommandRefusal.TheVariants.{Event, File, Pool}
use Rattle.commands.specs.Contexts.{AreContexts}
use Rattle.commands.specs.Refusals.{command_number}
use Rattle.worker_pool.specs.Outcomes.{contexts_of}
use Rattle.bpf_model.specs.declared.event.EventRefusal.TheVariants.{BadContext}
use Rattle.commands.proofs.Pooled.{contexts_told, not_so, pool_told, pool_written, sized, so_written}
use Rattle.worker_pool.specs.declared.fault.RunFault.TheVariants as run_faults
use Rattle.job_queue.specs.declared.fault.PoolFault.TheVariants as pool_faults
use Rattle.commands.proofs.pool.run_pool.Goals as goal

pub returns-in-Err-program_of-clause-refused : goal.returns-in-Err-program_of-clause-refused
returns-in-Err-program_of-clause-refused g c one =
    let v = File c.in-Err-program_of.refused.verdict in
    let told = c.report_refusal.ensures in
    IfSome_then (g.R.Read.remaining c.args.input.now) c.in-Ok.ensures
    (λ bytes holds. (
      v,
      not_so (command_number v ≡ memory_number) c.report_refusal.result told.memory one,
      not_so (command_number v ≡ pool_fault_number Lost) c.report_refusal.result told.lost one,
      inl (c.in-Err-program_of.ensures.refused bytes holds),
    ))

pub returns-in-Ok-run_program-clause-pooled : goal.returns-in-Ok-run_program-clause-pooled
returns-in-Ok-run_program-clause-pooled g c zero =
    let p = c.in-Ok-program_of.program.verified in
    let named = c.args.named.now in
    let given = c.args.given.now in
    let read = c.in-Ok-contexts_for.contexts.items in
    let contents = g.W.Write.contents in
    let last = so_written c.write_entries.result c.write_status.result c.write_status.ensures zero c.write_entries.ensures in
    let of_length : AreContexts named p.ctx_len given (contexts_of read) =
    subst (λ (n : ℕ). AreContexts named n given (contexts_of read)) c.ctx_len-len.ensures.value c.in-Ok-contexts_for.ensures.found in
    let are : AreContexts named p.ctx_len given (contexts_of c.deref.result.now) =
    subst (λ cs. AreContexts named p.ctx_len given (contexts_of cs)) (sym c.deref.ensures.value) of_length in
    let entries = c.in-Ok-run_program.entries in
    let size = sized (Ok entries) entries (run_faults.Pool pool_faults.BadWorkers) (run_faults.Pool pool_faults.TooManyJobs)
    c.args.size.workers c.args.size.count refl c.in-Ok-run_program.ensures.bad_workers c.in-Ok-run_program.ensures.too_many_jobs in
    IfSome_then (g.R.Read.remaining c.args.input.now) c.in-Ok.ensures
    (λ bytes holds. pool_written named given bytes p.program p.shapes p.ctx_len c.args.size.workers c.args.size.count
    c.in-Ok-run_program.entries (contexts_of c.deref.result.now) (contents c.args.out.now) (contents c.run_program.new.out)
    (contents c.write_entries.new.out) size (c.in-Ok-program_of.ensures.found bytes holds) are c.in-Ok-run_program.ensures.written last)

pub returns-in-Err-contexts_for-clause-refused : goal.returns-in-Err-contexts_for-clause-refused
returns-in-Err-contexts_for-clause-refused g c one =
    let p = c.in-Ok-program_of.program.verified in
    let named = c.args.named.now in
    let given = c.args.given.now in
    let none = c.in-Err-contexts_for.ensures.fault (c.report_contexts.ensures.refused one) in
    let of_length : (contexts : List (List ℕ)) → AreContexts named p.ctx_len given contexts → ⊥ =
    subst (λ (n : ℕ). (contexts : List (List ℕ)) → AreContexts named n given contexts → ⊥) c.ctx_len-len.ensures.value none in
    IfSome_then (g.R.Read.remaining c.args.input.now) c.in-Ok.ensures
    (λ bytes holds. (
      Event BadContext,
      (λ e. (let no : 63 ≡ 13 = e in omega (arith, no))),
      (λ e. (let no : 63 ≡ 92 = e in omega (arith, no))),
      contexts_told named given c.args.size.workers c.args.size.count bytes p.program p.shapes p.ctx_len
          (c.in-Ok-program_of.ensures.found bytes holds) of_length,
    ))

pub returns-in-Err-Pool-clause-refused : goal.returns-in-Err-Pool-clause-refused
returns-in-Err-Pool-clause-refused g c one =
    let p = c.in-Ok-program_of.program.verified in
    let v = Pool c.in-Err-Pool.fault in
    let told = c.report_size.ensures in
    let fault = rw c.in-Err-Pool.field-0-is at c.in-Err-Pool.ensures.fault in
    IfSome_then (g.R.Read.remaining c.args.input.now) c.in-Ok.ensures
    (λ bytes holds. (
      v,
      not_so (command_number v ≡ memory_number) c.report_size.result told.memory one,
      not_so (command_number v ≡ pool_fault_number Lost) c.report_size.result told.lost one,
      pool_told c.args.named.now c.args.given.now c.args.size.workers c.args.size.count bytes p.program p.shapes p.ctx_len c.in-Err-Pool.fault
          (c.in-Ok-program_of.ensures.found bytes holds) fault,
    ))
