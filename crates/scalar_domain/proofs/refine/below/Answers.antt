use Rattle.bpf_model.proofs.Prelude.{◌<◌, arith}
use Rattle.scalar_domain.proofs.Pairs.{ordered}
use Rattle.scalar_domain.proofs.refine.below.Goals as goal

pub returns-clause-remains : goal.returns-clause-remains
returns-clause-remains c =
    let l = c.in_ok-left in
    let r = c.in_ok-right in
    ordered (λ x y. x < y) c.args.a c.args.b l.left r.right l.ensures.no_wider r.ensures.no_wider
    (λ x h. omega (arith, h, l.ensures.bounds.1))
    (λ y h. omega (arith, h, r.ensures.bounds.0))
