use Rattle.bpf_model.proofs.Prelude.{arith}
use Rattle.reference_store.proofs.Sections.{not-among, none-among}
use Rattle.reference_store.proofs.element.is_among.Goals as goal

pub loop-j-preserved : goal.loop-j-preserved
loop-j-preserved c = not-among c.args.sections.now c.args.section.now (record { run = 0; number = 0 }) c.loop-j.j
    c.eq.result c.loop-j-test.true c.eq.ensures c.if-eq.false c.loop-j.invariant

pub returns-clause-apart : goal.returns-clause-apart
returns-clause-apart c = λ _. none-among c.args.sections.now c.args.section.now c.loop-j.j (omega (arith, c.loop-j-test.false)) c.loop-j.invariant
