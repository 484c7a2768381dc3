use Rattle.bpf_model.proofs.Prelude.{◌≡◌, ℕ, ◌+◌, ◌%◌, ◌^◌, ◌<◌, ◌≤◌, arith, bit_and, bit_or, bit_not, w64, and_self, or_lt, xor_lt, mod_below, pow_pos}
use Rattle.scalar_domain.proofs.Prelude.{HasBits, AreKnownBelow}
use Rattle.scalar_domain.proofs.Bits.{within-trans}
use Rattle.scalar_domain.proofs.Carries.{opened, sum_bits, low_known}
use Rattle.scalar_domain.proofs.known.KnownBits.add.Goals as goal

-- a sum of words, with a carry, as the code has it
carried : ℕ → ℕ → ℕ → ℕ
carried m n c = ((m + n) % 2 ^ 64 + c) % 2 ^ 64

carried_is : (m n c : ℕ) → carried m n c ≡ (m + n + c) % 2 ^ 64
unfolding carried
carried_is m n c = omega arith

carried_lt : (m n c : ℕ) → carried m n c < 2 ^ 64
unfolding carried
carried_lt m n c = mod_below _ (2 ^ 64) (pow_pos 64)

module _ (a a' b b' c : ℕ) (p : a < 2 ^ 64) (p' : a' < 2 ^ 64) (q : b < 2 ^ 64) (q' : b' < 2 ^ 64) where
  open_bits : ℕ
  open_bits = opened a a' b b' (carried a b c) (carried a' b' c)

  fits : open_bits < 2 ^ 64
  unfolding open_bits
  fits = or_lt 64 _ _ (or_lt 64 _ _ (xor_lt 64 a' a p' p) (xor_lt 64 b' b q' q)) (xor_lt 64 _ _ (carried_lt a b c) (carried_lt a' b' c))

  sound : (x y : ℕ) → c ≤ 1 → HasBits a' a x → HasBits b' b y →
      HasBits (bit_or (carried a b c) open_bits) (bit_and (carried a b c) (bit_not w64 open_bits))
      ((x + y + c) % 2 ^ 64)
  unfolding open_bits
  sound x y l h k = sum_bits a x a' b y b' c _ _ (carried_is a b c) (carried_is a' b' c) fits l h k

  low : (t : ℕ) → t ≤ 64 → AreKnownBelow t a' a → AreKnownBelow t b' b →
      AreKnownBelow t (bit_or (carried a b c) open_bits) (bit_and (carried a b c) (bit_not w64 open_bits))
  unfolding open_bits
  low t l i j = low_known a a' b b' c _ _ t (carried_is a b c) (carried_is a' b' c) fits l i j

pub invariant_of-result : goal.invariant_of-result
unfolding carried open_bits
invariant_of-result c =
    let a = c.args.self in
    let b = c.args.other in
    let s = sound a.must a.may b.must b.may c.args.carry (omega arith) (omega arith) (omega arith) (omega arith) a.must b.must c.requires
    (record { zeros = a.consistent; ones = and_self a.must }) (record { zeros = b.consistent; ones = and_self b.must }) in
    record { consistent = within-trans _ _ _ s.ones s.zeros }

pub returns-clause-sound : goal.returns-clause-sound
unfolding carried open_bits
returns-clause-sound c = λ x y h k.
    let a = c.args.self in
    let b = c.args.other in
    sound a.must a.may b.must b.may c.args.carry (omega arith) (omega arith) (omega arith) (omega arith) x y c.requires h k

pub returns-clause-low : goal.returns-clause-low
unfolding carried open_bits
returns-clause-low c = λ t l i j.
    let a = c.args.self in
    let b = c.args.other in
    low a.must a.may b.must b.may c.args.carry (omega arith) (omega arith) (omega arith) (omega arith) t l i j
