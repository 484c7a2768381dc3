use Rattle.bpf_model.proofs.Prelude.{arith, and_le_l, and_le_r}
use Rattle.scalar_domain.proofs.Bits.{within-and, within_le}
use Rattle.scalar_domain.proofs.scalar.Scalar.and.Goals as goal

pub returns-clause-sound : goal.returns-clause-sound
returns-clause-sound c = λ x y h k.
    c.new.ensures.sound _
    (omega (arith, within_le _ _ (within-and _ _ x y h.ones k.ones), c.min-2.ensures))
    (omega (
      arith,
      and_le_l x y,
      and_le_r x y,
      h.greatest,
      k.greatest,
      within_le _ _ (within-and x y _ _ h.zeros k.zeros),
      c.min.ensures,
      c.min-greatest.ensures,
    ))
    (within-and x y _ _ h.zeros k.zeros)
    (within-and _ _ x y h.ones k.ones)
