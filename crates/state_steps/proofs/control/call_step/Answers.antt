use Rattle.bpf_model.proofs.Prelude.{◌≡◌, ◌∙◌, rules, refl, sym, Err, Ok, SFits, to_z-of_z}
use Rattle.model_laws.proofs.Prelude.{Call}
use Rattle.register_kinds.proofs.Prelude.{state_of}
use Rattle.std.proofs.Common.{w32}
use Rattle.state_steps.proofs.Serving.{call_ready, call_serves}
use Rattle.state_steps.proofs.Stepping.{quiet_step, above_five, inside_here}
use Rattle.state_steps.proofs.control.call_step.Goals as goal

pub returns-in_err-call-clause-stepped : goal.returns-in_err-call-clause-stepped
returns-in_err-call-clause-stepped c = λ ctx_len. record {
  done = search rules;
  below = c.call.ensures.below;
  unchanged = search rules;
  accepts = λ ready. absurd ready.simple;
  accepts_maps = λ ready.
      let f : SFits w32 c.args.imm = search rules in
      let kernel = simp to_z-of_z at c.in_err-call.ensures.kernel in
      let lookup = simp to_z-of_z at c.in_err-call.ensures.accepts_lookup in
      let fine = call_ready c.args.kind c.args.imm c.args.shape.now.shapes.now c.args.state.now _ (record { kernel = kernel; lookup = lookup }) ready in
      absurd cc;
}

pub returns-clause-stepped : goal.returns-clause-stepped
returns-clause-stepped c = λ ctx_len.
    let f : SFits w32 c.args.imm = search rules in
    let sound = simp to_z-of_z at c.in_ok-call.ensures.sound in
    let finds = simp to_z-of_z at c.in_ok-call.ensures.finds in
    let called = simp to_z-of_z at c.in_ok-call.ensures.called in
    quiet_step (Call c.args.kind c.args.imm) c.args.shape.now.shapes.now ctx_len c.call.new.ids.next c.args.state.now
    c.call.new.state c.single.result c.single.ensures
    (record { no_base = refl; no_test = λ r x. x; no_branch = λ x. x.1 refl })
    (sound ctx_len) c.call.ensures.below (λ ready. absurd ready.simple)
    (call_serves c.args.kind c.args.imm c.args.shape.now.shapes.now c.args.state.now c.call.new.state (record { finds = finds; called = called }))
    tt
    (λ r s n e. c.in_ok-call.ensures.others r s (above_five r n) e)
    (λ h. inside_here c.args.kind c.args.imm c.args.shape.now.shapes.now (state_of c.args.state.now)
    (λ e. c.call.result ≡ Err e) h (simp to_z-of_z at c.call.ensures.first)
    (λ e is. (let clash : Ok c.in_ok-call.field-0 ≡ Err e = sym c.in_ok-call.was ∙ is in absurd cc)))
