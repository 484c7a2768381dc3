use Rattle.bpf_model.proofs.Prelude.{◌≡◌, ◌≢◌, inl, inr, sym, ◌∙◌, ap, subst}
use Rattle.scalar_domain.proofs.Prelude.{IsBetween}
use Rattle.scalar_domain.specs.Relation.{IsNoBound}
use Rattle.scalar_domain.proofs.Pairs.{parted, mapped, turned}
use Rattle.scalar_domain.proofs.refine.different.Goals as goal

pub returns-in_ok-without-in_default-Some-clause-apart : goal.returns-in_ok-without-in_default-Some-clause-apart
returns-in_ok-without-in_default-Some-clause-apart c = λ k x i j n.
    let e : c.in_default-Some.k ≡ k = sym c.in_default-Some.ensures.least ∙ i.least in
    subst (IsNoBound c.in_ok-without-in_default-Some.field-0) e (c.in_ok-without-in_default-Some.ensures.apart x j (λ f. n (f ∙ e)))

pub returns-in_ok-without-in_default-Some-clause-remains : goal.returns-in_ok-without-in_default-Some-clause-remains
returns-in_ok-without-in_default-Some-clause-remains c = λ h j.
    let r = c.in_ok-without-in_default-Some in elim r.ensures.other [
      | inl e ↦ inl (ap (λ s. (s, c.args.b)) e)
      | inr f ↦ inr (parted c.args.a c.args.b r.field-0 c.in_default-Some.k c.in_default-Some.ensures r.ensures.no_wider f h j)
    ]

pub returns-in_ok-without-in-Some-None-clause-remains : goal.returns-in_ok-without-in-Some-None-clause-remains
returns-in_ok-without-in-Some-None-clause-remains c = λ h j.
    let r = c.in_ok-without-in-Some-None in elim r.ensures.other [
      | inl e ↦ inl (ap (λ s. (c.args.a, s)) e)
      | inr f ↦
          let t = turned (λ x y. x ≢ y) IsBetween c.args.a c.args.b
          (parted c.args.b c.args.a r.field-0 c.in-Some-None.k c.in-Some-None.ensures' r.ensures.no_wider f j h) in
          inr (mapped (λ x y. y ≢ x) (λ x y. x ≢ y) IsBetween IsBetween c.args.a c.args.b c.args.a c.args.b t
          (λ x y i k n. (i, k, λ e. n (sym e))) (λ x y i k n. (i, k, λ e. n (sym e))))
    ]
