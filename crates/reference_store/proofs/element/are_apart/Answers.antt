use Rattle.bpf_model.proofs.Prelude.{arith, refl, false≢true}
use Rattle.reference_store.proofs.Sections.{apart-more, all-apart, not-ended}
use Rattle.reference_store.proofs.element.are_apart.Goals as goal

pub loop-i-preserved : goal.loop-i-preserved
loop-i-preserved c = apart-more c.args.since.now c.args.opened.now (record { run = 0; number = 0 }) c.loop-i.i
    c.loop-i-test.true (c.is_among.ensures.apart c.if-is_among.false) c.loop-i.invariant

pub returns : goal.returns
returns c = (λ _. all-apart c.args.since.now c.args.opened.now c.loop-i.i (omega (arith, c.loop-i-test.false)) c.loop-i.invariant, λ _. refl)

pub returns-then-is_among : goal.returns-then-is_among
returns-then-is_among c = (
  λ t. absurd (false≢true t),
  λ ended. absurd (not-ended c.args.since.now c.args.opened.now
      (record { run = 0; number = 0 }) c.loop-i.i c.loop-i-test.true (c.is_among.ensures.among c.if-is_among.true)
      ended),
)
