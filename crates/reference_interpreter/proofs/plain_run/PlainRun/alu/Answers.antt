use Rattle.bpf_model.proofs.Prelude.{refl, ◌≡◌, ◌∙◌, ap, sym, subst, Some, computed, operand_value, sets, ◌>>=◌}
use Rattle.reference_interpreter.specs.declared.value.Computed.TheVariants as results
use Rattle.reference_interpreter.specs.Plain.{IsComputed, plain_state_of}
use Rattle.reference_interpreter.proofs.Laws.{far_set}
use Rattle.reference_interpreter.proofs.plain_run.PlainRun.alu.Goals as goal

pub returns-else-number-eq10 : goal.returns-else-number-eq10
returns-else-number-eq10 c = λ env.
    let m = plain_state_of c.args.self.now in
    let y = operand_value c.args.src.now m.regs in
    let h : IsComputed (computed c.args.size c.args.op c.register.result c.operand.result) results.OutOfRange =
    subst (IsComputed (computed c.args.size c.args.op c.register.result c.operand.result)) c.in-OutOfRange.is
    c.compute.ensures in
    let s = far_set c.args.dst h.0 m (λ e. c.if-number-eq10.false (c.number.ensures.value ∙ e)) h.2 in
    let q : computed c.args.size c.args.op (m.regs c.args.dst) y ≡ Some h.0 =
    ap (λ x. computed c.args.size c.args.op x y) (sym c.register.ensures) ∙
    ap (computed c.args.size c.args.op c.register.result) (sym c.operand.ensures) ∙ h.1 in
    record { comes = (s.0, ap (λ o. o >>= λ v. sets 1 c.args.dst v m) q ∙ s.1, s.2, s.3, refl) }
