use Rattle.bpf_model.proofs.Prelude.{◌≡◌, ℕ, subst, Appends, slot_total}
use Rattle.program_files.specs.Heads.{file_text}
use Rattle.program_files.specs.Verdicts.{memory_number, verdict_number}
use Rattle.commands.specs.Outputs.{accepted_text}
use Rattle.commands.proofs.Pooled.{not_so, so_written}
use Rattle.commands.proofs.check.check_made.Goals as goal

pub returns-in-Ok-clause-accepted : goal.returns-in-Ok-clause-accepted
returns-in-Ok-clause-accepted g c zero =
    let made = c.args.made in
    let accepted = c.in-Ok.accepted in
    let json = c.args.how.now.json in
    let old = g.W.Write.contents c.args.out.now in
    let new = g.W.Write.contents c.write_accepted.new.out in
    let a = c.in-Ok.ensures.accepted (file_text made.head.text made.program) c.source.ensures.says in
    let told = so_written c.write_accepted.result c.write_status.result c.write_status.ensures zero c.write_accepted.ensures in
    let slots : Appends old new (accepted_text json accepted.instructions (slot_total a.program)) =
    subst (λ (n : ℕ). Appends old new (accepted_text json accepted.instructions n)) a.slots told in
    (a.program, a.is, subst (λ (n : ℕ). Appends old new (accepted_text json n (slot_total a.program))) a.instructions slots)

pub returns-clause-refused : goal.returns-clause-refused
returns-clause-refused g c one =
    let made = c.args.made in
    let v = c.in-Err.refused.verdict in (
      v,
      not_so (verdict_number v ≡ memory_number) c.report_made.result c.report_made.ensures.memory one,
      c.in-Err.ensures.refused (file_text made.head.text made.program) c.source.ensures.says,
      c.report_made.ensures.told one,
    )
