use Rattle.bpf_model.proofs.Prelude.{rules, subst, sym, Ok, SFits, to_z-of_z}
use Rattle.model_laws.proofs.Prelude.{Insn}
use Rattle.std.proofs.Common.{w32}
use Rattle.state_steps.specs.Stepped.{Stepped}
use Rattle.state_steps.proofs.step.perform.Goals as goal

pub returns-in-Alu-clause-stepped : goal.returns-in-Alu-clause-stepped
returns-in-Alu-clause-stepped c = subst (λ (i : Insn).
    Stepped i c.args.shape.now.shapes.now c.args.shape.now.ctx_len c.args.ids.now.next c.args.state.now
    c.alu_step.new.state c.alu_step.result) (sym c.in-Alu.is)
    (c.alu_step.ensures c.args.shape.now.shapes.now c.args.shape.now.ctx_len c.args.ids.now.next c.requires.below)

pub returns-in-Unary-clause-stepped : goal.returns-in-Unary-clause-stepped
returns-in-Unary-clause-stepped c = subst (λ (i : Insn).
    Stepped i c.args.shape.now.shapes.now c.args.shape.now.ctx_len c.args.ids.now.next c.args.state.now
    c.unary_step.new.state c.unary_step.result) (sym c.in-Unary.is)
    (c.unary_step.ensures c.args.shape.now.shapes.now c.args.shape.now.ctx_len c.args.ids.now.next c.requires.below)

pub returns-in-LoadNumber-clause-stepped : goal.returns-in-LoadNumber-clause-stepped
returns-in-LoadNumber-clause-stepped c = subst (λ (i : Insn).
    Stepped i c.args.shape.now.shapes.now c.args.shape.now.ctx_len c.args.ids.now.next c.args.state.now
    c.load_number_step.new.state c.load_number_step.result) (sym c.in-LoadNumber.is)
    (c.load_number_step.ensures c.args.shape.now.shapes.now c.args.shape.now.ctx_len c.args.ids.now.next c.requires.below)

pub returns-in-LoadMap-clause-stepped : goal.returns-in-LoadMap-clause-stepped
returns-in-LoadMap-clause-stepped c =
    let f : SFits w32 c.in-LoadMap.map = search rules in
    subst (λ (i : Insn). Stepped i c.args.shape.now.shapes.now c.args.shape.now.ctx_len c.args.ids.now.next
    c.args.state.now c.load_map_step.new.state c.load_map_step.result) (sym c.in-LoadMap.is)
    (simp to_z-of_z at (c.load_map_step.ensures c.args.shape.now.ctx_len c.args.ids.now.next c.requires.below))

pub returns-in-JumpIf-clause-stepped : goal.returns-in-JumpIf-clause-stepped
returns-in-JumpIf-clause-stepped c = subst (λ (i : Insn).
    Stepped i c.args.shape.now.shapes.now c.args.shape.now.ctx_len c.args.ids.now.next c.args.state.now
    c.branch_step.new.state c.branch_step.result) (sym c.in-JumpIf.is)
    (c.branch_step.ensures c.in-JumpIf.offset c.args.shape.now.shapes.now c.args.shape.now.ctx_len c.args.ids.now.next c.requires.below)

pub returns-in-Jump-clause-stepped : goal.returns-in-Jump-clause-stepped
returns-in-Jump-clause-stepped c = subst (λ (i : Insn).
    Stepped i c.args.shape.now.shapes.now c.args.shape.now.ctx_len c.args.ids.now.next c.args.state.now
    c.args.state.now (Ok c.jump_step.result)) (sym c.in-Jump.is)
    (c.jump_step.ensures c.in-Jump.offset c.args.shape.now.shapes.now c.args.shape.now.ctx_len c.args.ids.now.next c.args.state.now c.requires.below)

pub returns-in-JumpLong-clause-stepped : goal.returns-in-JumpLong-clause-stepped
returns-in-JumpLong-clause-stepped c = subst (λ (i : Insn).
    Stepped i c.args.shape.now.shapes.now c.args.shape.now.ctx_len c.args.ids.now.next c.args.state.now
    c.args.state.now (Ok c.jump_long_step.result)) (sym c.in-JumpLong.is)
    (c.jump_long_step.ensures c.in-JumpLong.imm c.args.shape.now.shapes.now c.args.shape.now.ctx_len c.args.ids.now.next c.args.state.now c.requires.below)

pub returns-in-Call-clause-stepped : goal.returns-in-Call-clause-stepped
returns-in-Call-clause-stepped c =
    let f : SFits w32 c.in-Call.imm = search rules in
    subst (λ (i : Insn). Stepped i c.args.shape.now.shapes.now c.args.shape.now.ctx_len c.call_step.new.ids.next
    c.args.state.now c.call_step.new.state c.call_step.result) (sym c.in-Call.is)
    (simp to_z-of_z at (c.call_step.ensures.stepped c.args.shape.now.ctx_len))

pub returns-in-Exit-clause-stepped : goal.returns-in-Exit-clause-stepped
returns-in-Exit-clause-stepped c = subst (λ (i : Insn).
    Stepped i c.args.shape.now.shapes.now c.args.shape.now.ctx_len c.args.ids.now.next c.args.state.now
    c.args.state.now c.exit_step.result) (sym c.in-Exit.is)
    (c.exit_step.ensures c.args.shape.now.shapes.now c.args.shape.now.ctx_len c.args.ids.now.next c.requires.below)
