-- The arithmetic in whole numbers, without sign.
use Rattle.bpf_model.proofs.Prelude.{◌≡◌, ℕ, ◌+◌, ◌-◌, ◌*◌, ◌/◌, ◌%◌, ◌^◌, ◌<◌, ◌≤◌, pos, refl, sym, ◌∙◌, ap, ap₂, arith, Bool, cond, ◌==◌, ◌-ℤ◌, neg_ℤ}
use Rattle.bpf_model.proofs.Prelude.{int_div, int_rem, unsigned_abs, Width, w32, w64, bits, hbits, ints, to_z_pos, int_rem_euclid_is, pow_pos, shr_le}
use Rattle.bpf_model.proofs.Prelude.{mod-eq_of_lt, div-le_self, mod-le, operate, word, signed}
use Rattle.scalar_domain.proofs.Prelude.{unsigned_form}
use Rattle.std.specs.Int.{int_shr}
use Rattle.scalar_domain.proofs.Multiples.{below_word}
use Rattle.bpf_model.specs.declared.insn.AluOp.{AluOp}
use Rattle.bpf_model.specs.declared.insn.AluOp.TheVariants.{Add, Sub, Mul, SignedDiv, ShiftLeft, ShiftRight, SignedMod, ShiftRightSigned}
use Rattle.scalar_domain.proofs.Words.{operate_lt}

pub word_difference : (x y : ℕ) → y < 2 ^ 64 → word w64 (pos x -ℤ pos y) ≡ (x + (2 ^ 64 - y)) % 2 ^ 64
word_difference x y q = ap unsigned_abs (int_rem_euclid_is (pos x -ℤ pos y) (pos (2 ^ 64)) (2 ^ 64) 1
    (x + (2 ^ 64 - y)) (pow_pos 64) refl (omega (arith, ints)))

pub narrow_difference : (x y : ℕ) → y < 2 ^ 32 → word w32 (pos x -ℤ pos y) ≡ (x + (2 ^ 64 - y)) % 2 ^ 32
narrow_difference x y q = ap unsigned_abs (int_rem_euclid_is (pos x -ℤ pos y) (pos (2 ^ 32)) (2 ^ 32) (2 ^ 32)
    (x + (2 ^ 64 - y)) (pow_pos 32) refl (omega (arith, ints)))

pub negated_difference : (x : ℕ) → x < 2 ^ 64 → word w64 (neg_ℤ (pos x)) ≡ (0 + (2 ^ 64 - x)) % 2 ^ 64
negated_difference x q = ap unsigned_abs (int_rem_euclid_is (neg_ℤ (pos x)) (pos (2 ^ 64)) (2 ^ 64) 1
    (0 + (2 ^ 64 - x)) (pow_pos 64) refl (omega (arith, ints)))

pub narrow_negated : (x : ℕ) → x < 2 ^ 32 → word w32 (neg_ℤ (pos x)) ≡ (0 + (2 ^ 64 - x)) % 2 ^ 32
narrow_negated x q = ap unsigned_abs (int_rem_euclid_is (neg_ℤ (pos x)) (pos (2 ^ 32)) (2 ^ 32) (2 ^ 32)
    (0 + (2 ^ 64 - x)) (pow_pos 32) refl (omega (arith, ints)))

-- Signed readings of words whose sign bit is 0.
whole : (w : Width) (n m : ℕ) → n ≤ m → m < 2 ^ bits w → word w (pos n) ≡ n
whole w n m h l = mod-eq_of_lt (omega arith)

same_else : {A : Type 0} (t : Bool) (a b c : A) → b ≡ c → cond t a b ≡ cond t a c
same_else t a b c e = ap (cond t a) e

pub unsigned_same : (w : Width) → ((n : ℕ) → n < 2 ^ hbits w → n < 2 ^ bits w) → (op : AluOp) (x y : ℕ) →
    x < 2 ^ hbits w → y < 2 ^ hbits w → operate w op x y ≡ operate w (unsigned_form op) x y
unsigned_same w half SignedDiv x y p q = same_else (y == 0) 0 (word w (int_div (signed w x) (signed w y))) (x / y)
    (ap₂ (λ a b. word w (int_div a b)) (to_z_pos w x p) (to_z_pos w y q) ∙ whole w (x / y) x (div-le_self x y) (half x p))
unsigned_same w half SignedMod x y p q = same_else (y == 0) x (word w (int_rem (signed w x) (signed w y))) (x % y)
    (ap₂ (λ a b. word w (int_rem a b)) (to_z_pos w x p) (to_z_pos w y q) ∙ whole w (x % y) x (mod-le x y) (half x p))
unsigned_same w half ShiftRightSigned x y p q =
    ap (λ a. word w (int_shr a (y % bits w))) (to_z_pos w x p) ∙ whole w (x / 2 ^ (y % bits w)) x (shr_le x (y % bits w)) (half x p)
unsigned_same w half op x y p q = refl

pub wide_same : (op : AluOp) (x y : ℕ) → x < 2 ^ 63 → y < 2 ^ 63 → operate w64 op x y ≡ operate w64 (unsigned_form op) x y
wide_same op x y p q = unsigned_same w64 (λ n h. omega arith) op x y p q

pub narrow_same : (op : AluOp) (x y : ℕ) → x < 2 ^ 31 → y < 2 ^ 31 → operate w32 op x y ≡ operate w32 (unsigned_form op) x y
narrow_same op x y p q = unsigned_same w32 (λ n h. omega arith) op x y p q

-- On words of 32 bits, the operations are those on 64 bits, cut.
pub low_same : (op : AluOp) (x y : ℕ) → x < 2 ^ 32 → y < 2 ^ 32 → (op ≡ SignedDiv → ⊥) → (op ≡ SignedMod → ⊥) →
    (op ≡ ShiftLeft → ⊥) → (op ≡ ShiftRight → ⊥) → (op ≡ ShiftRightSigned → ⊥) →
    operate w64 op x y % 2 ^ 32 ≡ operate w32 op x y
low_same Add x y p q d m l r s = below_word (x + y) 32 (omega arith)
low_same Sub x y p q d m l r s = ap (λ n. n % 2 ^ 32) (word_difference x y (omega arith)) ∙
    below_word (x + (2 ^ 64 - y)) 32 (omega arith) ∙ sym (narrow_difference x y q)
low_same Mul x y p q d m l r s = below_word (x * y) 32 (omega arith)
low_same SignedDiv x y p q d m l r s = absurd (d refl)
low_same SignedMod x y p q d m l r s = absurd (m refl)
low_same ShiftLeft x y p q d m l r s = absurd (l refl)
low_same ShiftRight x y p q d m l r s = absurd (r refl)
low_same ShiftRightSigned x y p q d m l r s = absurd (s refl)
low_same op x y p q d m l r s = mod-eq_of_lt (operate_lt w32 op x y p q)
