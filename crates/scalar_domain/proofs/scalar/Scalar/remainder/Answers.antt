use Rattle.bpf_model.proofs.Prelude.{◌≡◌, ◌%◌, ◌<◌, sym, ◌∙◌, subst, arith, mod-eq_of_lt}
use Rattle.scalar_domain.proofs.Prelude.{Holds}
use Rattle.scalar_domain.proofs.Quotients.{when_positive}
use Rattle.scalar_domain.proofs.scalar.Scalar.remainder.Goals as goal

pub returns-then-self-other-clause-sound : goal.returns-then-self-other-clause-sound
returns-then-self-other-clause-sound c = λ x y h k.
    let p : 0 < y = omega (arith, c.if-other-eq0.false, k.least) in
    let e : x % y ≡ x = mod-eq_of_lt (omega (arith, h.greatest, k.least, c.if-self-other.true)) in
    subst (Holds c.args.self) (sym (when_positive y x (x % y) p ∙ e)) h
