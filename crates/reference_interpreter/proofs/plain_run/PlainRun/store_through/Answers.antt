use Rattle.bpf_model.proofs.Prelude.{rules, ◌∙◌, sym, subst, w16, w64, to_z-of_z, SFits, byte_count}
use Rattle.reference_interpreter.specs.Plain.{WritesFrame, plain_state_of, cells_of}
use Rattle.reference_interpreter.proofs.Laws.{store_known}
use Rattle.reference_interpreter.proofs.plain_run.PlainRun.store_through.Goals as goal

pub returns-in-Some : goal.returns-in-Some
returns-in-Some c =
    let g : SFits w16 c.args.offset = c.ranges.offset in
    let h : SFits w64 c.in-Frame.o = search rules in
    let e = simp to_z-of_z at c.region_offset.ensures.value in
    store_known (plain_state_of c.args.self.now) (byte_count c.args.width) c.args.offset c.args.v c.args.r
    c.in-Frame.o c.in-Some.at (cells_of c.write.new.frame) c.in-Frame.is (sym e ∙ c.in-Some.is)
    (subst (λ t. WritesFrame c.in-Some.at (byte_count c.args.width) c.args.v c.args.self.now.frame t c.write.new.frame) c.if-write.true c.write.ensures)
