use Rattle.bpf_model.proofs.Prelude.{sym, subst, arith, and_self}
use Rattle.scalar_domain.proofs.Prelude.{Within}
use Rattle.scalar_domain.proofs.Bits.{within-both, within-trans, and-within_l, and-within_r, within-or_l, within-or_r, or-within}
use Rattle.scalar_domain.proofs.scalar.Scalar.with_bits.Goals as goal

pub returns-then-must-may-clause-found : goal.returns-then-must-may-clause-found
returns-then-must-may-clause-found c = λ x h p q.
    absurd (c.if-must-may.true (within-trans _ x _ (or-within x _ _ h.ones q) (within-both x _ _ h.zeros p)))

pub returns-clause-sound : goal.returns-clause-sound
returns-clause-sound c = λ x h p q. c.new.ensures.sound x h.least h.greatest (within-both x _ _ h.zeros p) (or-within x _ _ h.ones q)

pub returns-clause-no_wider : goal.returns-clause-no_wider
returns-clause-no_wider c = record {
  least = omega (arith, c.new.ensures.least);
  greatest = omega (arith, c.new.ensures.greatest);
  zeros = subst (λ m. Within m c.args.self.may) (sym c.new.ensures.zeros) (and-within_l _ _ _ (and_self _));
  ones = subst (Within c.args.self.must) (sym c.new.ensures.ones) (within-or_l _ _ _ (and_self _));
}

pub returns-clause-bits : goal.returns-clause-bits
returns-clause-bits c = (
  subst (λ m. Within m c.args.may) (sym c.new.ensures.zeros) (and-within_r _ _ _ (and_self _)),
  subst (Within c.args.must) (sym c.new.ensures.ones) (within-or_r _ _ _ (and_self _)),
)
