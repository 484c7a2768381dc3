use Rattle.bpf_model.proofs.Prelude.{length}
use Rattle.classic_program.proofs.Prelude.{IsSoundAt}
use Rattle.classic_program.proofs.Every.{each-next, each-all}
use Rattle.classic_program.proofs.Marking.{get-at}
use Rattle.classic_program.proofs.checking.first_flaw.Goals as goal

pub loop-index-preserved : goal.loop-index-preserved
loop-index-preserved c =
    let program = c.args.program.now in
    each-next (IsSoundAt c.args.kind (length program)) program c.loop-index.index c.index-program-index.result c.loop-index.invariant
    (get-at program c.loop-index.index c.index-program-index.result c.loop-index-test.true c.index-program-index.is) c.in_default.ensures.none

pub returns-clause-none : goal.returns-clause-none
returns-clause-none c =
    let program = c.args.program.now in
    each-all (IsSoundAt c.args.kind (length program)) program c.loop-index.index c.loop-index.invariant c.loop-index-test.false
