use Rattle.bpf_model.proofs.Prelude.{◌<◌, ◌≤◌, sym, subst, arith, IfSome_then}
use Rattle.scalar_domain.proofs.Prelude.{SignedRelated, AreLeft, IsBetween, ToldSigned}
use Rattle.scalar_domain.specs.declared.relation.Relation.TheVariants.{Below, AtMost, Above, AtLeast}
use Rattle.scalar_domain.proofs.Edges.{no_wider-trans}
use Rattle.scalar_domain.proofs.Pairs.{signed_left, signed_right}
use Rattle.scalar_domain.proofs.refine.relate_signed.Goals as goal

pub returns-in_ok-clip-in-Below-clause-no_wider : goal.returns-in_ok-clip-in-Below-clause-no_wider
returns-in_ok-clip-in-Below-clause-no_wider c =
    let r = c.in_ok-clip-in-Below in
    IfSome_then c.below.result c.below.ensures.no_wider (λ p n. (n.0, no_wider-trans p.1 r.field-0 c.args.b n.1 r.ensures.no_wider))

pub returns-in_ok-clip-in-AtMost-clause-no_wider : goal.returns-in_ok-clip-in-AtMost-clause-no_wider
returns-in_ok-clip-in-AtMost-clause-no_wider c =
    let r = c.in_ok-clip-in-AtMost in
    IfSome_then c.at_most.result c.at_most.ensures.no_wider (λ p n. (n.0, no_wider-trans p.1 r.field-0 c.args.b n.1 r.ensures.no_wider))

pub returns-in_ok-right-in-Above-clause-sound : goal.returns-in_ok-right-in-Above-clause-sound
returns-in_ok-right-in-Above-clause-sound c = λ x y p q h k r.
    let s = subst (λ o. SignedRelated c.args.sign o x y) c.in-Above.is r (omega (arith, k.greatest, c.if-b-sign.true)) in
    let t = c.in_ok-right-in-Above.ensures.sound y x p k (c.in_ok-clip-in-Above.ensures.sound x h (omega arith) (omega (arith, s.1))) s.0 in
    (t.1, t.0)

pub returns-in_ok-right-in-Above-clause-no_wider : goal.returns-in_ok-right-in-Above-clause-no_wider
returns-in_ok-right-in-Above-clause-no_wider c =
    let n = c.in_ok-right-in-Above.ensures.no_wider in
    let r = c.in_ok-clip-in-Above in
    (no_wider-trans c.in_ok-right-in-Above.left r.field-0 c.args.a n.1 r.ensures.no_wider, n.0)

pub returns-in_ok-right-in-AtLeast-clause-sound : goal.returns-in_ok-right-in-AtLeast-clause-sound
returns-in_ok-right-in-AtLeast-clause-sound c = λ x y p q h k r.
    let s = subst (λ o. SignedRelated c.args.sign o x y) c.in-AtLeast.is r (omega (arith, k.greatest, c.if-b-sign-2.true)) in
    let t = c.in_ok-right-in-AtLeast.ensures.sound y x p k (c.in_ok-clip-in-AtLeast.ensures.sound x h (omega arith) (omega (arith, s.1))) s.0 in
    (t.1, t.0)

pub returns-in_ok-right-in-AtLeast-clause-no_wider : goal.returns-in_ok-right-in-AtLeast-clause-no_wider
returns-in_ok-right-in-AtLeast-clause-no_wider c =
    let n = c.in_ok-right-in-AtLeast.ensures.no_wider in
    let r = c.in_ok-clip-in-AtLeast in
    (no_wider-trans c.in_ok-right-in-AtLeast.left r.field-0 c.args.a n.1 r.ensures.no_wider, n.0)

pub returns-in_ok-clip-in-Below-clause-remains : goal.returns-in_ok-clip-in-Below-clause-remains
returns-in_ok-clip-in-Below-clause-remains c =
    let r = c.in_ok-clip-in-Below in
    IfSome_then c.below.result c.below.ensures.remains (λ p f h k.
    subst (λ o. AreLeft (ToldSigned c.args.sign o) IsBetween c.args.a c.args.b) (sym c.in-Below.is)
    (signed_left Below (λ x y. x < y) c.args.sign c.args.a c.args.b r.field-0 c.requires c.if-a-sign.true
    r.ensures.bounds.1 r.ensures.no_wider (λ x y e. e) (f h k)))

pub returns-in_ok-clip-in-AtMost-clause-remains : goal.returns-in_ok-clip-in-AtMost-clause-remains
returns-in_ok-clip-in-AtMost-clause-remains c =
    let r = c.in_ok-clip-in-AtMost in
    IfSome_then c.at_most.result c.at_most.ensures.remains (λ p f h k.
    subst (λ o. AreLeft (ToldSigned c.args.sign o) IsBetween c.args.a c.args.b) (sym c.in-AtMost.is)
    (signed_left AtMost (λ x y. x ≤ y) c.args.sign c.args.a c.args.b r.field-0 c.requires c.if-a-sign-2.true
    r.ensures.bounds.1 r.ensures.no_wider (λ x y e. e) (f h k)))

pub returns-in_ok-right-in-Above-clause-remains : goal.returns-in_ok-right-in-Above-clause-remains
returns-in_ok-right-in-Above-clause-remains c = λ h k.
    let r = c.in_ok-clip-in-Above in
    subst (λ o. AreLeft (ToldSigned c.args.sign o) IsBetween c.args.a c.args.b) (sym c.in-Above.is)
    (signed_right Above (λ x y. x < y) c.args.sign c.args.a c.args.b r.field-0 c.requires c.if-b-sign.true
    r.ensures.bounds.1 r.ensures.no_wider (λ x y e. e) (c.in_ok-right-in-Above.ensures.remains k h))

pub returns-in_ok-right-in-AtLeast-clause-remains : goal.returns-in_ok-right-in-AtLeast-clause-remains
returns-in_ok-right-in-AtLeast-clause-remains c = λ h k.
    let r = c.in_ok-clip-in-AtLeast in
    subst (λ o. AreLeft (ToldSigned c.args.sign o) IsBetween c.args.a c.args.b) (sym c.in-AtLeast.is)
    (signed_right AtLeast (λ x y. x ≤ y) c.args.sign c.args.a c.args.b r.field-0 c.requires c.if-b-sign-2.true
    r.ensures.bounds.1 r.ensures.no_wider (λ x y e. e) (c.in_ok-right-in-AtLeast.ensures.remains k h))
