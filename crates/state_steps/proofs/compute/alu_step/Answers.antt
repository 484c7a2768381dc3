use Rattle.bpf_model.proofs.Prelude.{rules, refl, ◌∙◌}
use Rattle.effects.proofs.Prelude.{SetsKind}
use Rattle.model_laws.proofs.Prelude.{Alu}
use Rattle.register_kinds.proofs.Prelude.{state_of}
use Rattle.state_steps.proofs.Serving.{alu_serves, alu_ready}
use Rattle.state_steps.proofs.Stepping.{quiet_step}
use Rattle.state_steps.proofs.Keeping.{set_keeps, alu_reads}
use Rattle.state_steps.proofs.compute.alu_step.Goals as goal

pub returns : goal.returns
returns c = λ shapes ctx_len top below.
    let a = c.args.state.now in
    let b = c.alu.new.state in
    quiet_step (Alu c.args.op c.args.size c.args.dst c.args.src.now) shapes ctx_len top a b c.single.result
    c.single.ensures (record { no_base = refl; no_test = λ r x. x; no_branch = λ x. x.1 refl })
    (c.in_ok-alu.ensures.sound shapes ctx_len) (c.alu.ensures.below top below)
    (λ ready.
    let r = alu_reads c.args.size c.args.dst c.args.src.now (state_of a) c.args.op ready.registers in
    let n = c.in_ok-alu.ensures.numbers ready.keeps_frame r.0 r.1 in
    set_keeps (Alu c.args.op c.args.size c.args.dst c.args.src.now) c.args.dst n.number (state_of a) (state_of b)
    (record { writes = λ r w. w; no_bytes = λ k w. w }) ready.keeps_frame n.alike)
    (alu_serves c.args.op c.args.size c.args.dst c.args.src.now a
    (λ k. SetsKind c.alu.result c.args.dst k (state_of a) (state_of b)) c.alu.ensures.copies c.alu.ensures.frame
    shapes (state_of b) (λ k r. r.alike))
    c.in_ok-alu.ensures.floor
    (λ r s n e. c.in_ok-alu.ensures.others r n ∙ e)
    (λ h. absurd h)

pub returns-in_err-alu : goal.returns-in_err-alu
returns-in_err-alu c = λ shapes ctx_len top below. record {
  done = search rules;
  below = c.alu.ensures.below top below;
  unchanged = search rules;
  accepts = λ ready.
      let r = alu_reads c.args.size c.args.dst c.args.src.now (state_of c.args.state.now) c.args.op ready.registers in
      let fine = (c.in_err-alu.ensures.numbers ready.keeps_frame r.0 r.1).fine in
      absurd cc;
  accepts_maps = λ ready. absurd (alu_ready c.args.op c.args.size c.args.dst c.args.src.now c.args.state.now (λ k. ⊥)
      (λ s o z e ne w. (let fine = (c.in_err-alu.ensures.copies s o z e ne w).fine in cc))
      (λ m at imm o z e ne k p q v. (let fine = (c.in_err-alu.ensures.frame m at imm o z e ne k p q v).fine in cc))
      shapes (λ k r. r) ready);
}
