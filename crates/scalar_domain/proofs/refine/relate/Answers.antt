use Rattle.bpf_model.proofs.Prelude.{◌≡◌, ◌<◌, ◌≤◌, ◌∙◌, inr, sym, subst, arith, bit_and, IfSome, and_zero_l, and_comm, IfSome_then}
use Rattle.scalar_domain.proofs.Prelude.{Related, AreLeft, Counts, IsBetween, LeavesSome, Told}
use Rattle.scalar_domain.proofs.Edges.{apart, outside}
use Rattle.scalar_domain.proofs.Pairs.{apart_left, between, turned}
use Rattle.scalar_domain.proofs.refine.relate.Goals as goal

pub returns-in_ok-right-in-Above-clause-sound : goal.returns-in_ok-right-in-Above-clause-sound
returns-in_ok-right-in-Above-clause-sound c = λ x y p q h k r.
    let s = c.in_ok-right-in-Above.ensures.sound y x p k h (subst (λ o. Related o x y) c.in-Above.is r) in
    (s.1, s.0)

pub returns-in_ok-right-in-AtLeast-clause-sound : goal.returns-in_ok-right-in-AtLeast-clause-sound
returns-in_ok-right-in-AtLeast-clause-sound c = λ x y p q h k r.
    let s = c.in_ok-right-in-AtLeast.ensures.sound y x p k h (subst (λ o. Related o x y) c.in-AtLeast.is r) in
    (s.1, s.0)

pub returns-in_ok-right-in-Apart-clause-sound : goal.returns-in_ok-right-in-Apart-clause-sound
returns-in_ok-right-in-Apart-clause-sound c = λ x y p q h k r.
    let a = c.args.a in
    let b = c.args.b in
    let e : bit_and x y ≡ 0 = subst (λ o. Related o x y) c.in-Apart.is r in (
      c.in_ok-left-in-Apart.ensures.sound x h (outside b.must x (omega arith) p (apart b.must x y k.ones e)) (and_zero_l x),
      c.in_ok-right-in-Apart.ensures.sound y k (outside a.must y (omega arith) q (apart a.must y x h.ones (and_comm y x ∙ e))) (and_zero_l y),
    )

pub returns-in-Different-clause-apart : goal.returns-in-Different-clause-apart
returns-in-Different-clause-apart c = λ k x e i h. c.different.ensures.apart k x i (between c.args.a x h)

pub returns-in-Below-clause-remains : goal.returns-in-Below-clause-remains
returns-in-Below-clause-remains c = IfSome_then c.below.result c.below.ensures.remains
    (λ p f h k. inr (subst (λ o. AreLeft (Told o) (Counts o) c.args.a c.args.b) (sym c.in-Below.is) (f h k)))

pub returns-in-AtMost-clause-remains : goal.returns-in-AtMost-clause-remains
returns-in-AtMost-clause-remains c = IfSome_then c.at_most.result c.at_most.ensures.remains
    (λ p f h k. inr (subst (λ o. AreLeft (Told o) (Counts o) c.args.a c.args.b) (sym c.in-AtMost.is) (f h k)))

pub returns-in_ok-right-in-Above-clause-remains : goal.returns-in_ok-right-in-Above-clause-remains
returns-in_ok-right-in-Above-clause-remains c = λ h k.
    inr (subst (λ o. AreLeft (Told o) (Counts o) c.args.a c.args.b) (sym c.in-Above.is)
    (turned (λ x y. x < y) IsBetween c.args.a c.args.b (c.in_ok-right-in-Above.ensures.remains k h)))

pub returns-in_ok-right-in-AtLeast-clause-remains : goal.returns-in_ok-right-in-AtLeast-clause-remains
returns-in_ok-right-in-AtLeast-clause-remains c = λ h k.
    inr (subst (λ o. AreLeft (Told o) (Counts o) c.args.a c.args.b) (sym c.in-AtLeast.is)
    (turned (λ x y. x ≤ y) IsBetween c.args.a c.args.b (c.in_ok-right-in-AtLeast.ensures.remains k h)))

pub returns-in-Equal-clause-remains : goal.returns-in-Equal-clause-remains
returns-in-Equal-clause-remains c = IfSome_then c.equal.result c.equal.ensures.remains
    (λ p f h k. inr (subst (λ o. AreLeft (Told o) (Counts o) c.args.a c.args.b) (sym c.in-Equal.is) (f h k)))

pub returns-in-Different-clause-remains : goal.returns-in-Different-clause-remains
returns-in-Different-clause-remains c =
    subst (λ o. IfSome c.different.result (LeavesSome (Told o) (Counts o) c.args.a c.args.b)) (sym c.in-Different.is) c.different.ensures.remains

pub returns-in_ok-right-in-Apart-clause-remains : goal.returns-in_ok-right-in-Apart-clause-remains
returns-in_ok-right-in-Apart-clause-remains c = λ h k.
    let l = c.in_ok-left-in-Apart in
    let r = c.in_ok-right-in-Apart in
    inr (subst (λ o. AreLeft (Told o) (Counts o) c.args.a c.args.b) (sym c.in-Apart.is)
    (apart_left c.args.a c.args.b l.left r.right (omega arith) (omega arith) l.ensures.no_wider r.ensures.no_wider
    l.ensures.bits.0 r.ensures.bits.0 h k))
