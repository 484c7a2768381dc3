use Rattle.bpf_model.proofs.Prelude.{◌≡◌, Some, subst, sym, ap, ℤ, helper_of, to_z-of_z, on_ok_weaker}
use Rattle.effects.proofs.Prelude.{PerformsCall}
use Rattle.model_laws.proofs.Prelude.{Lookup, CallKind}
use Rattle.register_kinds.proofs.Prelude.{kind_of, state_of}
use Rattle.std.proofs.Common.{w32}
use Rattle.bpf_model.specs.declared.insn.CallKind.TheVariants as callee
use Rattle.effects.proofs.CallLaws.{lookup_inside}
use Rattle.effects.proofs.calls.call.Goals as goal

pub returns-in-Kernel-clause-sound : goal.returns-in-Kernel-clause-sound
returns-in-Kernel-clause-sound c = on_ok_weaker c.call_kernel.result
    (λ e. subst (λ (k : CallKind). PerformsCall k c.args.imm c.args.shapes.now c.args.state.now c.call_kernel.new.state) (sym c.in-Kernel.is)
    (subst (λ (z : ℤ). PerformsCall callee.Kernel z c.args.shapes.now c.args.state.now c.call_kernel.new.state)
    (to_z-of_z w32 c.args.imm c.ranges.imm) e)) c.call_kernel.ensures.sound

pub returns-in-Helper-clause-sound : goal.returns-in-Helper-clause-sound
returns-in-Helper-clause-sound c = on_ok_weaker c.call_helper.result
    (λ e. subst (λ (k : CallKind). PerformsCall k c.args.imm c.args.shapes.now c.args.state.now c.call_helper.new.state) (sym c.in-Helper.is)
    (subst (λ (z : ℤ). PerformsCall callee.Helper z c.args.shapes.now c.args.state.now c.call_helper.new.state)
    (to_z-of_z w32 c.args.imm c.ranges.imm) e)) c.call_helper.ensures.sound

pub returns-in-Helper-clause-accepts_lookup : goal.returns-in-Helper-clause-accepts_lookup
returns-in-Helper-clause-accepts_lookup c = λ map shape kind is into key at bytes. c.call_helper.ensures.accepts Lookup shape
    (subst (λ (z : ℤ). helper_of z ≡ Some Lookup) (sym (to_z-of_z w32 c.args.imm c.ranges.imm)) is)
    (lookup_inside c.args.shapes.now (state_of c.args.state.now) map shape into (ap kind_of key) at)
    ((map, ap kind_of key, at), (bytes, tt))

pub returns-in-Helper-clause-signature : goal.returns-in-Helper-clause-signature
returns-in-Helper-clause-signature c = on_ok_weaker c.call_helper.result
    (λ signature helper kind is. signature helper (subst (λ (z : ℤ). helper_of z ≡ Some helper)
    (sym (to_z-of_z w32 c.args.imm c.ranges.imm)) is)) c.call_helper.ensures.signature
