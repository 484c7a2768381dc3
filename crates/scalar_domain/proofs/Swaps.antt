-- Swapped bytes are a word.
use Rattle.bpf_model.proofs.Prelude.{ℕ, ◌+◌, ◌*◌, ◌/◌, ◌%◌, ◌^◌, ◌<◌, arith, swap_bytes, mod_below, pow_pos, reordered, bits}
use Rattle.bpf_model.specs.Arithmetic.{swapped_width}
use Rattle.bpf_model.specs.declared.opcode.ByteOrder.{ByteOrder}
use Rattle.bpf_model.specs.declared.opcode.ByteOrder.TheVariants.{ToLittle, ToBig, Swap}
use Rattle.bpf_model.specs.declared.opcode.SwapWidth.{SwapWidth}
use Rattle.bpf_model.specs.declared.opcode.SwapWidth.TheVariants as swap_width

byte : (n : ℕ) → n % 256 < 256
byte n = mod_below n 256 (pow_pos 8)

eight : (a b c d e f g h : ℕ) → a < 256 → b < 256 → c < 256 → d < 256 → e < 256 → f < 256 → g < 256 → h < 256 →
    a * 72057594037927936 + b * 281474976710656 + c * 1099511627776 + d * 4294967296 + e * 16777216 + f * 65536 + g * 256 + h < 2 ^ 64
eight a b c d e f g h p0 p1 p2 p3 p4 p5 p6 p7 = omega arith

pub swap_lt : (width : SwapWidth) (n : ℕ) → swap_bytes (swapped_width width) n < 2 ^ bits (swapped_width width)
swap_lt swap_width.Two n = omega (arith, byte n, byte (n / 256))
swap_lt swap_width.Four n = omega (arith, byte n, byte (n / 256), byte (n / 65536), byte (n / 16777216))
swap_lt swap_width.Eight n =
    eight (n % 256) (n / 256 % 256) (n / 65536 % 256) (n / 16777216 % 256) (n / 4294967296 % 256)
    (n / 1099511627776 % 256) (n / 281474976710656 % 256) (n / 72057594037927936 % 256)
    (byte n) (byte (n / 256)) (byte (n / 65536)) (byte (n / 16777216)) (byte (n / 4294967296))
    (byte (n / 1099511627776)) (byte (n / 281474976710656)) (byte (n / 72057594037927936))

pub reordered_below : (order : ByteOrder) (width : SwapWidth) (n : ℕ) → reordered order width n < 2 ^ bits (swapped_width width)
reordered_below ToLittle width n = mod_below n (2 ^ bits (swapped_width width)) (pow_pos (bits (swapped_width width)))
reordered_below ToBig width n = swap_lt width (n % 2 ^ bits (swapped_width width))
reordered_below Swap width n = swap_lt width (n % 2 ^ bits (swapped_width width))

wide : (width : SwapWidth) (n : ℕ) → n < 2 ^ bits (swapped_width width) → n < 2 ^ 64
wide swap_width.Two n h = omega arith
wide swap_width.Four n h = omega arith
wide swap_width.Eight n h = h

pub reordered_lt : (order : ByteOrder) (width : SwapWidth) (n : ℕ) → reordered order width n < 2 ^ 64
reordered_lt order width n = wide width (reordered order width n) (reordered_below order width n)
