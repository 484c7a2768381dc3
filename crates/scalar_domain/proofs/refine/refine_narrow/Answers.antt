use Rattle.bpf_model.proofs.Prelude.{◌^◌, inl, inr, sym, ◌∙◌, ap, subst, arith, IfSome_then, w32}
use Rattle.scalar_domain.proofs.Prelude.{Related, SignedRelated, AreLeft, Counts, IsBetween, Told, ToldSigned, relation_on}
use Rattle.scalar_domain.proofs.Edges.{related, signed_related}
use Rattle.scalar_domain.proofs.Pairs.{left_along, left_signed}
use Rattle.scalar_domain.proofs.refine.refine_narrow.Goals as goal

pub returns-then-is_signed-clause-sound : goal.returns-then-is_signed-clause-sound
returns-then-is_signed-clause-sound c = λ x y p q h k e.
    let i = c.relation_of-relation.ensures ∙ ap (λ d. relation_on d c.args.taken) c.condition_without_sign.ensures in
    c.relate_signed.ensures.sound x y (omega (arith, p)) (omega (arith, q)) h k
    (subst (λ r. SignedRelated (2 ^ 31) r x y) (sym i) (signed_related w32 c.args.condition c.args.taken x y (sym c.is_signed.ensures ∙ c.if-is_signed.true) e))

pub returns-else-is_signed-clause-sound : goal.returns-else-is_signed-clause-sound
returns-else-is_signed-clause-sound c = λ x y p q h k e.
    c.relate.ensures.sound x y (omega (arith, p)) (omega (arith, q)) h k
    (subst (λ r. Related r x y) (sym c.relation_of.ensures) (related w32 c.args.condition c.args.taken x y e))

pub returns-then-is_signed-clause-remains : goal.returns-then-is_signed-clause-remains
returns-then-is_signed-clause-remains c =
    let i = c.relation_of-relation.ensures ∙ ap (λ d. relation_on d c.args.taken) c.condition_without_sign.ensures in
    IfSome_then c.relate_signed.result c.relate_signed.ensures.remains (λ p f h k.
    inr (left_signed w32 c.args.condition c.args.taken c.args.a c.args.b (sym c.is_signed.ensures ∙ c.if-is_signed.true)
    (subst (λ r. AreLeft (ToldSigned (2 ^ 31) r) IsBetween c.args.a c.args.b) i (f h k))))

pub returns-else-is_signed-clause-remains : goal.returns-else-is_signed-clause-remains
returns-else-is_signed-clause-remains c =
    IfSome_then c.relate.result c.relate.ensures.remains (λ p f h k. elim (f h k) [
      | inl e ↦ inl e
      | inr g ↦ inr (left_along w32 c.args.condition c.args.taken c.args.a c.args.b (sym c.is_signed.ensures ∙ c.if-is_signed.false)
          (subst (λ r. AreLeft (Told r) (Counts r) c.args.a c.args.b) c.relation_of.ensures g))
    ])
