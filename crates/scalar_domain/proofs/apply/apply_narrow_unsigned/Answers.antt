use Rattle.bpf_model.proofs.Prelude.{◌≡◌, ◌*◌, ◌/◌, ◌%◌, ◌^◌, sym, ◌∙◌, ap, subst, arith, w32, shr_le, mod-eq_of_lt, operate}
use Rattle.scalar_domain.proofs.Prelude.{Holds}
use Rattle.scalar_domain.proofs.Multiples.{below_word}
use Rattle.scalar_domain.proofs.Forms.{low_same}
use Rattle.scalar_domain.proofs.apply.apply_narrow_unsigned.Goals as goal

pub returns-in-ShiftLeft-clause-sound : goal.returns-in-ShiftLeft-clause-sound
returns-in-ShiftLeft-clause-sound c = λ x y p q h k.
    subst (Holds c.low_bits.result) (below_word (x * 2 ^ (y % 32)) 32 (omega arith) ∙ sym (ap (λ o. operate w32 o x y) c.in-ShiftLeft.is))
    (c.low_bits.ensures.sound _ (c.shift_left_by.ensures.sound x y (omega (arith, p)) h k))

pub returns-in-ShiftRight-clause-sound : goal.returns-in-ShiftRight-clause-sound
returns-in-ShiftRight-clause-sound c = λ x y p q h k.
    let e : x / 2 ^ (y % 32) % 2 ^ 32 ≡ x / 2 ^ (y % 32) = mod-eq_of_lt (omega (arith, shr_le x (y % 32), p)) in
    subst (Holds c.low_bits-in-ShiftRight.result) (e ∙ sym (ap (λ o. operate w32 o x y) c.in-ShiftRight.is))
    (c.low_bits-in-ShiftRight.ensures.sound _ (c.shift_right_by.ensures.sound x y h k))

pub returns-in_default : goal.returns-in_default
returns-in_default c = record {
  sound = λ x y p q h k.
      subst (Holds c.low_bits-in_default.result)
      (low_same c.args.op x y p q c.in_default.not-SignedDiv c.in_default.not-SignedMod c.in_default.not-ShiftLeft
      c.in_default.not-ShiftRight c.in_default.not-ShiftRightSigned)
      (c.low_bits-in_default.ensures.sound _ (c.apply_unsigned.ensures.sound x y (omega (arith, p)) (omega (arith, q)) h k));
  bound = c.low_bits-in_default.ensures.greatest;
}
