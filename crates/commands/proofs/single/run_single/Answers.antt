use Rattle.bpf_model.proofs.Prelude.{◌≡◌, ℕ, List, subst, IfSome_then, Appends}
use Rattle.program_files.specs.Verdicts.{memory_number}
use Rattle.commands.specs.Refusals.{command_number}
use Rattle.commands.proofs.Pooled.{not_so, so_written}
use Rattle.commands.proofs.single.run_single.Goals as goal

pub returns-in-Ok-run_of-clause-ended : goal.returns-in-Ok-run_of-clause-ended
returns-in-Ok-run_of-clause-ended g c zero =
    let contents = g.W.Write.contents in
    let last = so_written c.write_text.result c.write_status.result c.write_status.ensures zero c.write_text.ensures in
    IfSome_then (g.R.Read.remaining c.args.input.now) c.in-Ok.ensures
    (λ bytes holds. (
      c.in-Ok-run_of.text.items,
      c.in-Ok-run_of.ensures.ended bytes holds,
      subst (λ (t : List ℕ). Appends (contents c.args.out.now) (contents c.write_text.new.out) t) c.deref.ensures.value last,
    ))

pub returns-clause-refused : goal.returns-clause-refused
returns-clause-refused g c one =
    let v = c.in-Err-run_of.refused.refusal in
    IfSome_then (g.R.Read.remaining c.args.input.now) c.in-Ok.ensures
    (λ bytes holds. (
      v,
      not_so (command_number v ≡ memory_number) c.report_run.result c.report_run.ensures.memory one,
      c.in-Err-run_of.ensures.refused bytes holds,
      c.report_run.ensures.told one,
    ))
