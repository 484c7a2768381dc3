use Rattle.bpf_model.proofs.Prelude.{sym, ◌∙◌, ap, subst, arith, w32, operate}
use Rattle.scalar_domain.proofs.Prelude.{Holds}
use Rattle.scalar_domain.proofs.Forms.{narrow_same}
use Rattle.scalar_domain.proofs.apply.apply_narrow.Goals as goal

pub returns-then-b-clause-sound : goal.returns-then-b-clause-sound
returns-then-b-clause-sound c = λ x y p q h k.
    subst (Holds c.apply_narrow_unsigned.result)
    (ap (λ o. operate w32 o x y) c.without_sign.ensures ∙
    sym (narrow_same c.args.op x y (omega (arith, h.greatest, c.if-a.true))
    (omega (arith, k.greatest, c.if-b.true))))
    (c.apply_narrow_unsigned.ensures.sound x y p q h k)
