use Rattle.bpf_model.proofs.Prelude.{◌∙◌, ap, inr, refl, err_from_is_err_and}
use Rattle.asm.specs.Faults.{statements_in}
use Rattle.asm.proofs.Assembled.{text_fault_only, made_only, statements_of_program}
use Rattle.asm.proofs.assembling.assemble.Goals as goal

pub returns-in_err-instructions-clause-only : goal.returns-in_err-instructions-clause-only
returns-in_err-instructions-clause-only c p program e =
    let q = err_from_is_err_and c.from_residual.result c.from_residual.ensures.1 in
    inr (rw (q.1, q.2, text_fault_only c.args.text.now c.in_err-instructions.field-0.0 c.in_err-instructions.ensures.fault p program e) refl)

pub returns-in_err-instructions-clause-again : goal.returns-in_err-instructions-clause-again
returns-in_err-instructions-clause-again c p program e =
    let q = err_from_is_err_and c.from_residual.result c.from_residual.ensures.1 in
    inr (rw (
      q.1,
      q.2,
      text_fault_only c.args.text.now c.in_err-instructions.field-0.0
          c.in_err-instructions.ensures.fault p program (ap statements_in e ∙ statements_of_program p),
    ) refl)

pub returns-clause-again : goal.returns-clause-again
returns-clause-again c p program e =
    made_only c.in_ok-instructions.instructions.items c.program_of.result c.program_of.ensures.made
    c.program_of.ensures.fault p program (c.in_ok-instructions.ensures.only p program.fits
    (ap statements_in e ∙ statements_of_program p))
