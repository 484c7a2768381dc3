use mir.Syntax.{w32}
use mir.Val.{to_z, of_z}
use Rattle.std.proofs.Common.{rules, ◌≡◌, ◌≢◌, None, sym, subst}
use Rattle.std.specs.Prelude.{ℤ, pos}
use Rattle.host_programs.specs.Refusals.{IsFileFault}
use Rattle.bpfrt_c.specs.Refused.{Tells}
use Rattle.bpfrt_c.proofs.Told.{told_so}
use Rattle.bpfrt_c.proofs.opening.bpfrt0_prog_open_file.Goals as goal

pub returns-clause-fault : goal.returns-clause-fault
returns-clause-fault c =
    let r = c.put_program.result in
    let why = c.put_program.new.why in
    let written_back : to_z w32 (of_z w32 r) ≡ r = search rules in
    subst (λ (z : ℤ). c.args.host.now.handle.held ≡ None → z ≢ pos 0 → why.code ≢ 13 → Tells (IsFileFault c.args.text.now) why z)
    (sym written_back)
    (λ none failed other. told_so c.from_file.result (IsFileFault c.args.text.now) why r c.from_file.ensures.fault
    (c.put_program.ensures.fault failed other))
