use Rattle.bpf_model.proofs.Prelude.{◌/◌, ◌<◌, sym, subst, arith}
use Rattle.scalar_domain.proofs.Prelude.{Holds}
use Rattle.scalar_domain.proofs.Quotients.{when_positive, div_mono}
use Rattle.scalar_domain.proofs.scalar.Scalar.divide.Goals as goal

pub returns-else-other-eq0 : goal.returns-else-other-eq0
returns-else-other-eq0 c = λ x y h k.
    let a = c.args.self in
    let b = c.args.other in
    let l : 0 < b.least = omega (arith, c.if-other-eq0.false) in
    let p : 0 < y = omega (arith, l, k.least) in
    subst (Holds c.between-else-other-eq0.result) (sym (when_positive y 0 (x / y) p))
    (c.between-else-other-eq0.ensures.sound (x / y)
    (div_mono a.least c.max.result x y h.least p (omega (arith, k.greatest, c.max.ensures)))
    (div_mono x y a.greatest b.least h.greatest l k.least))
