use Rattle.bpf_model.proofs.Prelude.{◌≡◌, ℕ, ◌+◌, ◌%◌, ◌^◌, sym, subst, and_self}
use Rattle.scalar_domain.proofs.Prelude.{Within, HasBits}
use Rattle.scalar_domain.specs.declared.scalar.Scalar.{Scalar}
use Rattle.scalar_domain.proofs.scalar.Scalar.sum.Goals as goal

-- the least number by its bits has them
least_bits : (s : Scalar) (may must : ℕ) → may ≡ s.may → must ≡ s.must → HasBits may must s.must
least_bits s may must e f = record {
  zeros = subst (Within s.must) (sym e) s.consistent;
  ones = subst (λ n. Within n s.must) (sym f) (and_self s.must);
}

pub returns-then-least-greatest-clause-ones : goal.returns-then-least-greatest-clause-ones
returns-then-least-greatest-clause-ones c =
    let b = c.add-bits.ensures.sound c.args.self.must c.args.other.must
    (least_bits c.args.self _ _ c.bits.ensures.zeros c.bits.ensures.ones) (least_bits c.args.other _ _ c.bits-2.ensures.zeros c.bits-2.ensures.ones) in
    subst (λ n. Within n ((c.args.self.must + c.args.other.must + c.args.carry) % 2 ^ 64)) (sym c.new.ensures.ones) b.ones

pub returns-else-least-greatest-clause-ones : goal.returns-else-least-greatest-clause-ones
returns-else-least-greatest-clause-ones c =
    let b = c.add-bits.ensures.sound c.args.self.must c.args.other.must
    (least_bits c.args.self _ _ c.bits.ensures.zeros c.bits.ensures.ones) (least_bits c.args.other _ _ c.bits-2.ensures.zeros c.bits-2.ensures.ones) in
    subst (λ n. Within n ((c.args.self.must + c.args.other.must + c.args.carry) % 2 ^ 64)) (sym c.from_bits.ensures.ones) b.ones
