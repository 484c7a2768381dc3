use Rattle.bpf_model.proofs.Prelude.{sym, ◌∙◌, ap, subst, w64, operate}
use Rattle.scalar_domain.proofs.Prelude.{Holds}
use Rattle.scalar_domain.proofs.Words.{operate_lt}
use Rattle.scalar_domain.proofs.Forms.{word_difference}
use Rattle.scalar_domain.proofs.apply.apply_unsigned.Goals as goal

pub returns-in-Sub-clause-sound : goal.returns-in-Sub-clause-sound
returns-in-Sub-clause-sound c = λ x y p q h k.
    subst (Holds c.subtract.result) (sym (ap (λ o. operate w64 o x y) c.in-Sub.is ∙ word_difference x y q)) (c.subtract.ensures.sound x y p q h k)

pub returns-in-SignedDiv-clause-sound : goal.returns-in-SignedDiv-clause-sound
returns-in-SignedDiv-clause-sound c = λ x y p q h k. c.unknown.ensures.sound _ (operate_lt w64 c.args.op x y p q)
