-- Results of arithmetic are words.
use Rattle.bpf_model.proofs.Prelude.{ℕ, ◌*◌, ◌/◌, ◌%◌, ◌^◌, ◌<◌, ℤ, pos, negsuc, arith, Bool, true, false, cond, ◌==◌, ◌+ℤ◌, neg_ℤ, int_div, int_rem, Width}
use Rattle.bpf_model.proofs.Prelude.{w16, w32, w64, bits, and_le_l, or_lt, xor_lt, mod_below, pow_pos, shr_le, div-le_self, mod-le, operate, alu, word}
use Rattle.bpf_model.proofs.Prelude.{signed, negated, loaded_signed}
use Rattle.std.specs.Int.{w8}
use Rattle.bpf_model.specs.Arithmetic.{moved_signed}
use Rattle.bpf_model.specs.declared.insn.AluOp.{AluOp}
use Rattle.bpf_model.specs.declared.insn.AluOp.TheVariants.{Add, Div, SignedDiv, Or, And, ShiftLeft, ShiftRight, Mod, SignedMod, Xor, Move}
use Rattle.bpf_model.specs.declared.insn.SignExtension.{SignExtension}
use Rattle.bpf_model.specs.declared.insn.SignExtension.TheVariants.{ByteTo32, ShortTo32, ByteTo64, ShortTo64, WordTo64}
use Rattle.bpf_model.specs.declared.opcode.SignedWidth.{SignedWidth}
use Rattle.bpf_model.specs.declared.opcode.SignedWidth.TheVariants as signed_width
use Rattle.bpf_model.specs.declared.opcode.Size.{Size}
use Rattle.bpf_model.specs.declared.opcode.Size.TheVariants.{Word32, Word64}

pub either_lt : (b : Bool) (x y m : ℕ) → x < m → y < m → cond b x y < m
either_lt true x y m p q = p
either_lt false x y m p q = q

pub word_lt : (w : Width) (z : ℤ) → word w z < 2 ^ bits w
word_lt w (pos n) = mod_below n (2 ^ bits w) (pow_pos (bits w))
word_lt w (negsuc n) = omega (arith, pow_pos (bits w))

pub operate_lt : (w : Width) (op : AluOp) (x y : ℕ) → x < 2 ^ bits w → y < 2 ^ bits w → operate w op x y < 2 ^ bits w
operate_lt w Add x y p q = word_lt w (pos x +ℤ pos y)
operate_lt w Div x y p q = either_lt (y == 0) 0 (x / y) (2 ^ bits w) (pow_pos (bits w)) (omega (arith, div-le_self x y))
operate_lt w SignedDiv x y p q = either_lt (y == 0) 0 (word w (int_div (signed w x) (signed w y))) (2 ^ bits w)
    (pow_pos (bits w)) (word_lt w (int_div (signed w x) (signed w y)))
operate_lt w Or x y p q = or_lt (bits w) x y p q
operate_lt w And x y p q = omega (arith, and_le_l x y)
operate_lt w ShiftLeft x y p q = mod_below (x * 2 ^ (y % bits w)) (2 ^ bits w) (pow_pos (bits w))
operate_lt w ShiftRight x y p q = omega (arith, shr_le x (y % bits w))
operate_lt w Mod x y p q = either_lt (y == 0) x (x % y) (2 ^ bits w) p (omega (arith, mod-le x y))
operate_lt w SignedMod x y p q = either_lt (y == 0) x (word w (int_rem (signed w x) (signed w y))) (2 ^ bits w) p
    (word_lt w (int_rem (signed w x) (signed w y)))
operate_lt w Xor x y p q = xor_lt (bits w) x y p q
operate_lt w Move x y p q = q
operate_lt w op x y p q = search word_lt

low_lt : (n : ℕ) → n % 2 ^ 32 < 2 ^ 32
low_lt n = mod_below n (2 ^ 32) (pow_pos 32)

pub narrow_lt : (op : AluOp) (x y : ℕ) → alu Word32 op x y < 2 ^ 32
narrow_lt op x y = operate_lt w32 op (x % 2 ^ 32) (y % 2 ^ 32) (low_lt x) (low_lt y)

pub alu_lt : (size : Size) (op : AluOp) (x y : ℕ) → x < 2 ^ 64 → y < 2 ^ 64 → alu size op x y < 2 ^ 64
alu_lt Word64 op x y p q = operate_lt w64 op x y p q
alu_lt Word32 op x y p q = omega (arith, narrow_lt op x y)

pub negated_lt : (size : Size) (x : ℕ) → negated size x < 2 ^ 64
negated_lt Word64 x = word_lt w64 (neg_ℤ (pos x))
negated_lt Word32 x = omega (arith, word_lt w32 (neg_ℤ (pos (x % 2 ^ 32))))

pub moved_signed_lt : (extension : SignExtension) (x : ℕ) → moved_signed extension x < 2 ^ 64
moved_signed_lt ByteTo32 x = omega (arith, word_lt w32 (signed w8 (x % 2 ^ 8)))
moved_signed_lt ShortTo32 x = omega (arith, word_lt w32 (signed w16 (x % 2 ^ 16)))
moved_signed_lt ByteTo64 x = word_lt w64 (signed w8 (x % 2 ^ 8))
moved_signed_lt ShortTo64 x = word_lt w64 (signed w16 (x % 2 ^ 16))
moved_signed_lt WordTo64 x = word_lt w64 (signed w32 (x % 2 ^ 32))

pub loaded_signed_lt : (width : SignedWidth) (x : ℕ) → loaded_signed width x < 2 ^ 64
loaded_signed_lt signed_width.One x = word_lt w64 (signed w8 (x % 2 ^ 8))
loaded_signed_lt signed_width.Two x = word_lt w64 (signed w16 (x % 2 ^ 16))
loaded_signed_lt signed_width.Four x = word_lt w64 (signed w32 (x % 2 ^ 32))
