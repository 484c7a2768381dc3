use Rattle.bpf_model.proofs.Prelude.{arith, false≢true}
use Rattle.scalar_domain.proofs.Edges.{no_wider-trans}
use Rattle.scalar_domain.proofs.Pairs.{between, shared}
use Rattle.scalar_domain.proofs.refine.equal.Goals as goal

pub returns-in_err-right-clause-found : goal.returns-in_err-right-clause-found
returns-in_err-right-clause-found c = λ x i j. absurd
    (false≢true (c.in_err-right.ensures.found x (between c.args.b x j) i.least i.greatest))

pub returns-clause-no_wider : goal.returns-clause-no_wider
returns-clause-no_wider c = (
  no_wider-trans c.in_ok-one.one c.in_ok-left.left c.args.a c.in_ok-one.ensures.no_wider c.in_ok-left.ensures.no_wider,
  no_wider-trans c.in_ok-other.other c.in_ok-right.right c.args.b c.in_ok-other.ensures.no_wider c.in_ok-right.ensures.no_wider,
)

pub returns-clause-remains : goal.returns-clause-remains
returns-clause-remains c =
    let l = c.in_ok-left in
    let r = c.in_ok-right in
    let one = c.in_ok-one in
    let other = c.in_ok-other in
    shared c.args.a c.args.b one.one other.other
    (no_wider-trans one.one l.left c.args.a one.ensures.no_wider l.ensures.no_wider)
    (record {
      least = omega (arith, one.ensures.bounds.0, l.ensures.bounds.0);
      greatest = omega (arith, one.ensures.bounds.1, l.ensures.bounds.1);
      zeros = one.ensures.bits.0;
      ones = one.ensures.bits.1;
    })
    (record {
      least = omega (arith, other.ensures.bounds.0, r.ensures.bounds.0);
      greatest = omega (arith, other.ensures.bounds.1, r.ensures.bounds.1);
      zeros = other.ensures.bits.0;
      ones = other.ensures.bits.1;
    })
    (no_wider-trans other.other r.right c.args.b other.ensures.no_wider r.ensures.no_wider)
