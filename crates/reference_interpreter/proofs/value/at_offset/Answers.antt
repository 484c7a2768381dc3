use Rattle.bpf_model.proofs.Prelude.{◌∙◌, sym}
use Rattle.reference_interpreter.proofs.Laws.{far_moved}
use Rattle.reference_interpreter.proofs.value.at_offset.Goals as goal

pub returns-in-None : goal.returns-in-None
returns-in-None c = λ d s. far_moved c.args.r c.args.offset d c.in-None.is (λ k e. let f = sym c.in-Ctx.is ∙ e in cc) s

pub returns-in-None-offset : goal.returns-in-None-offset
returns-in-None-offset c = λ d s. far_moved c.args.r c.args.offset d c.in-None-offset.is (λ k e. let f = sym c.in-Frame.is ∙ e in cc) s

pub returns-in-None-offset-2 : goal.returns-in-None-offset-2
returns-in-None-offset-2 c = λ d s. far_moved c.args.r c.args.offset d c.in-None-offset-2.is (λ k e. let f = sym c.in-Elem.is ∙ e in cc) s
