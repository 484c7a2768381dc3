use Rattle.bpf_model.proofs.Prelude.{get_or, refl, subst}
use Rattle.classic_program.proofs.Prelude.{Lacks}
use Rattle.std.proofs.Common.{take_all}
use Rattle.classic_program.proofs.Splits.{lacks-more, cut-none, cut-some}
use Rattle.classic_program.proofs.reading.cut.Goals as goal

pub returns-then-byte-separator : goal.returns-then-byte-separator
returns-then-byte-separator c =
    cut-some c.args.separator c.args.bytes.now _ c.loop-index.index
    (get_or c.args.bytes.now c.loop-index.index 0) c.loop-index-test.true c.loop-index.invariant refl c.if-byte-separator.true refl

pub loop-index-preserved : goal.loop-index-preserved
loop-index-preserved c = lacks-more c.args.separator c.args.bytes.now c.loop-index.index c.loop-index-test.true c.loop-index.invariant c.if-byte-separator.false

pub returns : goal.returns
returns c =
    cut-none c.args.separator c.args.bytes.now
    (subst (Lacks c.args.separator) (take_all c.loop-index.index c.args.bytes.now c.loop-index-test.false) c.loop-index.invariant)
