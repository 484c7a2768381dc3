use mir.Syntax.{w32}
use mir.Val.{to_z, of_z}
use Rattle.std.proofs.Common.{rules, ◌≡◌, ◌≢◌, None, sym, subst}
use Rattle.std.specs.Prelude.{ℤ, pos}
use Rattle.host_programs.specs.Refusals.{IsBytesFault}
use Rattle.bpfrt_c.specs.Refused.{IsBytesFaultInC, Tells}
use Rattle.bpfrt_c.specs.Shapes.{AreShapesInC}
use Rattle.bpfrt_c.proofs.Told.{told_in_c, told_so}
use Rattle.bpfrt_c.proofs.opening.bpfrt0_prog_open.Goals as goal

pub returns-clause-fault : goal.returns-clause-fault
returns-clause-fault c =
    let r = c.put_program.result in
    let why = c.put_program.new.why in
    let written_back : to_z w32 (of_z w32 r) ≡ r = search rules in
    let bytes = c.args.insns.now in
    let long = c.args.ctx_len in
    let written = c.args.shapes.now in
    let shapes = c.as_slice.result.now in
    let are = subst (AreShapesInC written) (sym c.as_slice.ensures.value) c.in-Ok.ensures.shapes in
    subst (λ (z : ℤ). c.args.host.now.handle.held ≡ None → z ≢ pos 0 → why.code ≢ 13 →
    Tells (IsBytesFaultInC bytes long written) why z) (sym written_back)
    (λ none failed other. told_in_c bytes long written shapes why r are
    (told_so c.from_bytes-opened.result (IsBytesFault bytes long shapes) why r c.from_bytes-opened.ensures.fault
    (c.put_program.ensures.fault failed other)))
