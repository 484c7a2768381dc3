use Rattle.bpf_model.proofs.Prelude.{◌∙◌, ap, sym, arith, byte_of}
use Rattle.reference_interpreter.specs.Plain.{cells_of}
use Rattle.reference_interpreter.proofs.Numbers.{number_step}
use Rattle.reference_interpreter.proofs.memory.+number_in_frame.Goals as goal

pub returns-clause-value : goal.returns-clause-value
returns-clause-value t c = number_step (λ k. byte_of (cells_of c.args.frame.now k)) c.args.at c.args.width
    c.in_ok-low.low c.in_ok-high.high c.joined.result (omega arith)
    (ap byte_of (sym c.cell_at.ensures) ∙ sym c.byte.ensures ∙ c.in_ok-low.was) (sym c.number_in_frame.ensures.value ∙ c.in_ok-high.was) c.joined.ensures.value
