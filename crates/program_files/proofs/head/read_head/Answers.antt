use Rattle.bpf_model.proofs.Prelude.{rules, err_from_is_err_and}
use Rattle.program_files.specs.Stages.{content_of}
use Rattle.program_files.proofs.Heads.{head_fault, no_head}
use Rattle.program_files.proofs.head.read_head.Goals as goal

pub returns-in_err-read-clause-fault : goal.returns-in_err-read-clause-fault
returns-in_err-read-clause-fault c =
    let p = err_from_is_err_and c.from_residual-in_err-read.result c.from_residual-in_err-read.ensures.1 in
    rw (p.1, p.2) (head_fault c.args.lines.now c.deref.result.now c.in_err-read.field-0.0 (search rules) c.in_err-read.ensures.wrong)

pub returns-in_default-clause-fault : goal.returns-in_default-clause-fault
returns-in_default-clause-fault c =
    no_head c.args.lines.now c.deref.result.now c.in_ok-read.read.said.stage (content_of c.in_ok-read.read.said) c.in_ok-read.read.next
    (search rules) c.in_default.not-Maps c.in_ok-read.ensures.read
