use Rattle.bpf_model.proofs.Prelude.{◌≤◌, arith, false≢true}
use Rattle.scalar_domain.proofs.Pairs.{ordered}
use Rattle.scalar_domain.proofs.refine.at_most.Goals as goal

pub returns-in_err-right-clause-found : goal.returns-in_err-right-clause-found
returns-in_err-right-clause-found c = λ x y i j l. absurd
    (false≢true (c.in_err-right.ensures.found y j (omega (arith, i.least, l)) (omega (arith, j.greatest))))

pub returns-clause-remains : goal.returns-clause-remains
returns-clause-remains c =
    let l = c.in_ok-left in
    let r = c.in_ok-right in
    ordered (λ x y. x ≤ y) c.args.a c.args.b l.left r.right l.ensures.no_wider r.ensures.no_wider
    (λ x h. omega (arith, h, l.ensures.bounds.1))
    (λ y h. omega (arith, h, r.ensures.bounds.0))
