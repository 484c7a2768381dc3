use Rattle.bpf_model.proofs.Prelude.{rules, subst, sym, w16, w32, to_z-of_z, SFits, environment_of}
use Rattle.reference_interpreter.specs.Plain.{PerformsInsn}
use Rattle.reference_interpreter.proofs.plain_run.PlainRun.perform.Goals as goal

pub returns-in-Alu : goal.returns-in-Alu
returns-in-Alu c = subst (λ i. PerformsInsn i (environment_of c.args.context.now c.args.maps) c.args.self.now
    c.alu.result c.alu.new.self) (sym c.in-Alu.is) (c.alu.ensures (environment_of c.args.context.now c.args.maps))

pub returns-in-Unary : goal.returns-in-Unary
returns-in-Unary c = subst (λ i. PerformsInsn i (environment_of c.args.context.now c.args.maps) c.args.self.now
    c.unary.result c.unary.new.self) (sym c.in-Unary.is)
    (c.unary.ensures (environment_of c.args.context.now c.args.maps))

pub returns-in-LoadMap : goal.returns-in-LoadMap
returns-in-LoadMap c =
    let g : SFits w32 c.in-LoadMap.map = search rules in
    let e = simp to_z-of_z at c.load_map.ensures in
    subst (λ i. PerformsInsn i (environment_of c.args.context.now c.args.maps) c.args.self.now c.load_map.result
    c.load_map.new.self) (sym c.in-LoadMap.is) (e c.args.context.now)

pub returns-in-JumpIf : goal.returns-in-JumpIf
returns-in-JumpIf c =
    let g : SFits w16 c.in-JumpIf.offset = search rules in
    let e = simp to_z-of_z at c.jump_if.ensures in
    subst (λ i. PerformsInsn i (environment_of c.args.context.now c.args.maps) c.args.self.now c.jump_if.result
    c.jump_if.new.self) (sym c.in-JumpIf.is) (e (environment_of c.args.context.now c.args.maps))

pub returns-in-Exit : goal.returns-in-Exit
returns-in-Exit c = subst (λ i. PerformsInsn i (environment_of c.args.context.now c.args.maps) c.args.self.now
    c.exit.result c.args.self.now) (sym c.in-Exit.is) (c.exit.ensures (environment_of c.args.context.now c.args.maps))

pub returns-in-Load : goal.returns-in-Load
returns-in-Load c =
    let g : SFits w16 c.in-Load.offset = search rules in
    let e = simp to_z-of_z at c.load.ensures in
    subst (λ i. PerformsInsn i (environment_of c.args.context.now c.args.maps) c.args.self.now c.load.result c.load.new.self) (sym c.in-Load.is) (e c.args.maps)

pub returns-in-LoadSigned : goal.returns-in-LoadSigned
returns-in-LoadSigned c =
    let g : SFits w16 c.in-LoadSigned.offset = search rules in
    let e = simp to_z-of_z at c.load_signed.ensures in
    subst (λ i. PerformsInsn i (environment_of c.args.context.now c.args.maps) c.args.self.now c.load_signed.result
    c.load_signed.new.self) (sym c.in-LoadSigned.is) (e c.args.maps)
