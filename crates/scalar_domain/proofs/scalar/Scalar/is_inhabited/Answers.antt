use Rattle.bpf_model.proofs.Prelude.{inl, inr, sym, ◌∙◌, arith, false≢true, lt-ltb, ltb-true}
use Rattle.scalar_domain.proofs.Splits.{decided}
use Rattle.scalar_domain.proofs.scalar.Scalar.is_inhabited.Goals as goal

pub returns-then-last-self : goal.returns-then-last-self
returns-then-last-self c =
    let s = c.args.self in
    let m = c.split-last in (
      λ t. record { number = _; held = c.contains-then-last-self.ensures.0 t },
      λ h. elim (decided s m.result m.ensures.least m.ensures.greatest m.ensures.lower m.ensures.upper h) [
        | inl p ↦ absurd (false≢true (sym c.if-contains.false ∙ c.contains.ensures.1 p))
        | inr p ↦ c.contains-then-last-self.ensures.1 p.1
      ],
    )

pub returns-else-last-self : goal.returns-else-last-self
returns-else-last-self c =
    let s = c.args.self in
    let m = c.split-last in (
      λ t. absurd (omega (arith, ltb-true m.result s.greatest t, c.if-last-self.false)),
      λ h. elim (decided s m.result m.ensures.least m.ensures.greatest m.ensures.lower m.ensures.upper h) [
        | inl p ↦ absurd (false≢true (sym c.if-contains.false ∙ c.contains.ensures.1 p))
        | inr p ↦ lt-ltb m.result s.greatest p.0
      ],
    )
