use Rattle.bpf_model.proofs.Prelude.{sym, ◌∙◌, false≢true}
use Rattle.asm.proofs.LineLaws.{no_insn, formed_line, formed_insn, has_form, text_is, ok_is, not_insn}
use Rattle.asm.proofs.line.read_insn.Goals as goal

pub returns-in_default-clause-only : goal.returns-in_default-clause-only
returns-in_default-clause-only c i h e = absurd (no_insn c.args.line.now c.in_default.ensures.only i e)

pub returns-then-not-is_formed-clause-only : goal.returns-then-not-is_formed-clause-only
returns-then-not-is_formed-clause-only c i h e = absurd
    (false≢true (c.if-not-is_formed.ensures ∙ formed_insn c.args.line.now c.in-Some.statement c.in-Some.ensures.only i
    h e))

pub returns-then-not-is_formed-clause-flaw : goal.returns-then-not-is_formed-clause-flaw
returns-then-not-is_formed-clause-flaw c h = false≢true (c.if-not-is_formed.ensures ∙ formed_line c.args.line.now c.in-Some.statement c.in-Some.ensures.only h)

pub returns-in-Some-insn_from-clause-found : goal.returns-in-Some-insn_from-clause-found
returns-in-Some-insn_from-clause-found c = (
  c.in-Some-insn_from.ensures.found.0,
  text_is c.args.line.now c.in-Some.statement c.in-Some.ensures.found c.in-Some-insn_from.insn
      c.in-Some-insn_from.ensures.found.0 c.in-Some-insn_from.ensures.found.1 c.in-Some-insn_from.ensures.found.2,
)

pub returns-in-Some-insn_from-clause-only : goal.returns-in-Some-insn_from-clause-only
returns-in-Some-insn_from-clause-only c = ok_is c.args.line.now c.in-Some.statement c.in-Some-insn_from.insn
    c.in-Some.ensures.only c.in-Some-insn_from.ensures.only

pub returns-in-None-clause-only : goal.returns-in-None-clause-only
returns-in-None-clause-only c i h e = absurd (not_insn c.args.line.now c.in-Some.statement c.in-Some.ensures.only c.in-None.ensures.only i h e)

pub returns-in-None-clause-flaw : goal.returns-in-None-clause-flaw
returns-in-None-clause-flaw c = (
  has_form c.args.line.now c.in-Some.statement c.in-Some.ensures.found (sym c.if-not-is_formed.ensures),
  (λ h. not_insn c.args.line.now c.in-Some.statement c.in-Some.ensures.only c.in-None.ensures.only h.instruction h.fits h.text),
)
