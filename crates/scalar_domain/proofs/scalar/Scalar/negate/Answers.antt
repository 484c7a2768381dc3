use Rattle.bpf_model.proofs.Prelude.{◌+◌, ◌-◌, ◌%◌, ◌^◌, ◌<◌, sym, ◌∙◌, ap, subst, arith, mod_below, pow_pos, negated}
use Rattle.scalar_domain.proofs.Prelude.{Holds}
use Rattle.scalar_domain.proofs.Multiples.{below_word}
use Rattle.scalar_domain.proofs.Forms.{negated_difference, narrow_negated}
use Rattle.scalar_domain.proofs.scalar.Scalar.negate.Goals as goal

pub returns-in-Word64-clause-sound : goal.returns-in-Word64-clause-sound
returns-in-Word64-clause-sound c = λ x p h.
    subst (Holds c.subtract.result) (sym (ap (λ s. negated s x) c.in-Word64.is ∙ negated_difference x p))
    (c.subtract.ensures.sound 0 x (omega arith) p c.constant.ensures.sound h)

pub returns-in-Word32-clause-sound : goal.returns-in-Word32-clause-sound
returns-in-Word32-clause-sound c = λ x p h.
    let l : x % 2 ^ 32 < 2 ^ 32 = mod_below x (2 ^ 32) (pow_pos 32) in
    subst (Holds c.low_bits-in-Word32.result)
    (below_word (0 + (2 ^ 64 - x % 2 ^ 32)) 32 (omega arith) ∙ sym (ap (λ s. negated s x) c.in-Word32.is ∙ narrow_negated (x % 2 ^ 32) l))
    (c.low_bits-in-Word32.ensures.sound _ (c.subtract-in-Word32.ensures.sound 0 (x % 2 ^ 32) (omega arith)
    (omega (arith, l)) c.constant-in-Word32.ensures.sound (c.low_bits.ensures.sound x h)))
