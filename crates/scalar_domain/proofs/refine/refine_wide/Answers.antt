use Rattle.bpf_model.proofs.Prelude.{◌^◌, inl, inr, sym, ◌∙◌, ap, subst, IfSome_then, w64}
use Rattle.scalar_domain.proofs.Prelude.{Related, SignedRelated, AreLeft, Counts, IsBetween, Told, ToldSigned, relation_on}
use Rattle.scalar_domain.proofs.Edges.{related, signed_related, not_signed, goes_along, tells_apart}
use Rattle.scalar_domain.proofs.Pairs.{left_along, left_signed}
use Rattle.scalar_domain.proofs.refine.refine_wide.Goals as goal

pub returns-then-is_signed-clause-sound : goal.returns-then-is_signed-clause-sound
returns-then-is_signed-clause-sound c = λ x y p q h k e.
    let i = c.relation_of-relation.ensures ∙ ap (λ d. relation_on d c.args.taken) c.condition_without_sign.ensures in
    c.relate_signed.ensures.sound x y p q h k
    (subst (λ r. SignedRelated (2 ^ 63) r x y) (sym i) (signed_related w64 c.args.condition c.args.taken x y (sym c.is_signed.ensures ∙ c.if-is_signed.true) e))

pub returns-then-is_signed-clause-bounds : goal.returns-then-is_signed-clause-bounds
returns-then-is_signed-clause-bounds c = λ k x m j h e. absurd (not_signed c.args.condition c.args.taken m (sym c.is_signed.ensures ∙ c.if-is_signed.true))

pub returns-else-is_signed-clause-sound : goal.returns-else-is_signed-clause-sound
returns-else-is_signed-clause-sound c = λ x y p q h k e.
    c.relate.ensures.sound x y p q h k
    (subst (λ r. Related r x y) (sym c.relation_of.ensures) (related w64 c.args.condition c.args.taken x y e))

pub returns-else-is_signed-clause-bounds : goal.returns-else-is_signed-clause-bounds
returns-else-is_signed-clause-bounds c = λ k x m j i e.
    goes_along c.args.condition c.args.taken c.relation_of.result c.relate.result k x c.relation_of.ensures m (c.relate.ensures.bounds k x j i) e

pub returns-else-is_signed-clause-apart : goal.returns-else-is_signed-clause-apart
returns-else-is_signed-clause-apart c = λ k x m. c.relate.ensures.apart k x (c.relation_of.ensures ∙ tells_apart c.args.condition c.args.taken m)

pub returns-then-is_signed-clause-remains : goal.returns-then-is_signed-clause-remains
returns-then-is_signed-clause-remains c =
    let i = c.relation_of-relation.ensures ∙ ap (λ d. relation_on d c.args.taken) c.condition_without_sign.ensures in
    IfSome_then c.relate_signed.result c.relate_signed.ensures.remains (λ p f h k.
    inr (left_signed w64 c.args.condition c.args.taken c.args.a c.args.b (sym c.is_signed.ensures ∙ c.if-is_signed.true)
    (subst (λ r. AreLeft (ToldSigned (2 ^ 63) r) IsBetween c.args.a c.args.b) i (f h k))))

pub returns-else-is_signed-clause-remains : goal.returns-else-is_signed-clause-remains
returns-else-is_signed-clause-remains c =
    IfSome_then c.relate.result c.relate.ensures.remains (λ p f h k. elim (f h k) [
      | inl e ↦ inl e
      | inr g ↦ inr (left_along w64 c.args.condition c.args.taken c.args.a c.args.b (sym c.is_signed.ensures ∙ c.if-is_signed.false)
          (subst (λ r. AreLeft (Told r) (Counts r) c.args.a c.args.b) c.relation_of.ensures g))
    ])
