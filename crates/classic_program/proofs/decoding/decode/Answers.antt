use Rattle.bpf_model.proofs.Prelude.{◌+◌, List, sym, subst, slice_get-get_or}
use Rattle.classic_program.specs.declared.insn.ClassicInsn.{ClassicInsn}
use Rattle.classic_program.proofs.Decodes.{IsDecoding, decoding-next}
use Rattle.classic_program.proofs.decoding.decode.Goals as goal

pub loop-index-preserved : goal.loop-index-preserved
loop-index-preserved c =
    let filter = c.args.filter.now in
    let here = slice_get-get_or filter c.loop-index.index (record { code = 0; jt = 0; jf = 0; k = 0 }) c.loop-index-test.true in
    subst (λ (program : List ClassicInsn). IsDecoding filter program (c.loop-index.index + 1)) (sym c.in_ok-extend_from_slice-in-Ok.ensures.items)
    (decoding-next filter c.loop-index.program.items c.loop-index.index _ c.in-Ok.insn c.loop-index.invariant here c.in-Ok.ensures.found
    (λ j h. let same = c.in-Ok.ensures.only j h in cc))
