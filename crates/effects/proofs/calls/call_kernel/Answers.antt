use Rattle.bpf_model.proofs.Prelude.{◌≡◌, Some, sym, ap, ◌∙◌, to_z-of_z, on_ok_weaker, kernel_function_of}
use Rattle.model_laws.proofs.Prelude.{ReadUnlock}
use Rattle.std.proofs.Common.{w32}
use Rattle.effects.proofs.calls.call_kernel.Goals as goal

pub returns-in-Some-ReadUnlock-clause-sound : goal.returns-in-Some-ReadUnlock-clause-sound
returns-in-Some-ReadUnlock-clause-sound c =
    let number = c.from_number.ensures ∙ ap kernel_function_of (to_z-of_z w32 c.args.imm c.ranges.imm) in
    let is : kernel_function_of c.args.imm ≡ Some ReadUnlock = sym number ∙ (c.in-Some-ReadUnlock.is ∙ ap Some c.in-Some-ReadUnlock.field-0-is) in
    on_ok_weaker c.unlock.result (λ sound. sound c.args.imm is) c.unlock.ensures.sound
