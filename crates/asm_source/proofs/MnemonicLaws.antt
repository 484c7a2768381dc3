-- Mnemonics are lower letters and digits, and begin with a letter.
use Rattle.bpf_model.proofs.Prelude.{ℕ, ◌≡◌, Bool, true, false, ◌&&◌, ◌||◌, List, [], ◌∷◌, ◌++◌, refl, nat_le, and_parts}
use Rattle.bpf_model.specs.declared.opcode.Size.{Size}
use Rattle.bpf_model.specs.declared.opcode.Size.TheVariants.{Word32, Word64}
use Rattle.bpf_model.specs.declared.opcode.Width.{Width}
use Rattle.bpf_model.specs.declared.opcode.Width.TheVariants as width
use Rattle.bpf_model.specs.declared.opcode.SignedWidth.{SignedWidth}
use Rattle.bpf_model.specs.declared.opcode.SignedWidth.TheVariants as signed_width
use Rattle.bpf_model.specs.declared.opcode.SwapWidth.{SwapWidth}
use Rattle.bpf_model.specs.declared.opcode.SwapWidth.TheVariants as swap
use Rattle.bpf_model.specs.declared.opcode.ByteOrder.{ByteOrder}
use Rattle.bpf_model.specs.declared.opcode.ByteOrder.TheVariants.{ToLittle, ToBig, Swap}
use Rattle.bpf_model.specs.declared.opcode.Condition.{Condition}
use Rattle.bpf_model.specs.declared.opcode.Condition.TheVariants as condition
use Rattle.bpf_model.specs.declared.insn.AluOp.{AluOp}
use Rattle.bpf_model.specs.declared.insn.AluOp.TheVariants as alu
use Rattle.bpf_model.specs.declared.insn.CallKind.{CallKind}
use Rattle.bpf_model.specs.declared.insn.CallKind.TheVariants.{Helper, Kernel}
use Rattle.disasm.specs.declared.mnemonic.Mnemonic.{Mnemonic}
use Rattle.disasm.specs.declared.mnemonic.Mnemonic.TheVariants.{Alu, MoveSigned, Negate, ByteSwap, LoadNumber, LoadMap, Jump, JumpLong, JumpIf, Call, Exit}
use Rattle.disasm.specs.declared.mnemonic.Mnemonic.TheVariants.{Load, LoadSigned, Store, StoreRegister}
use Rattle.disasm.specs.Text.{mnemonic_text, stem_of, suffix_of, alu_stem, condition_stem, order_stem, size_suffix, jump_suffix, swap_suffix, width_suffix}
use Rattle.disasm.specs.Text.{signed_width_suffix, call_suffix}

abbrev pub is_low : ℕ → Bool
is_low b = nat_le 97 b && nat_le b 122

abbrev pub is_figure : ℕ → Bool
is_figure b = nat_le 48 b && nat_le b 57

abbrev pub is_plain : List ℕ → Bool
is_plain [] = true
is_plain (b ∷ bs) = (is_low b || is_figure b) && is_plain bs

abbrev pub begins_low : List ℕ → Bool
begins_low [] = false
begins_low (b ∷ bs) = is_low b

alu_plain : (x : AluOp) → is_plain (alu_stem x) ≡ true
alu_plain alu.Add = refl
alu_plain op = refl

condition_plain : (x : Condition) → is_plain (condition_stem x) ≡ true
condition_plain condition.Equal = refl
condition_plain condition.Greater = refl
condition_plain condition.GreaterOrEqual = refl
condition_plain condition.SharesBits = refl
condition_plain condition.NotEqual = refl
condition_plain condition.SignedGreater = refl
condition_plain condition.SignedGreaterOrEqual = refl
condition_plain condition.Less = refl
condition_plain condition.LessOrEqual = refl
condition_plain condition.SignedLess = refl
condition_plain condition.SignedLessOrEqual = refl

order_plain : (x : ByteOrder) → is_plain (order_stem x) ≡ true
order_plain ToLittle = refl
order_plain ToBig = refl
order_plain Swap = refl

size_plain : (x : Size) → is_plain (size_suffix x) ≡ true
size_plain Word32 = refl
size_plain Word64 = refl

jump_plain : (x : Size) → is_plain (jump_suffix x) ≡ true
jump_plain Word32 = refl
jump_plain Word64 = refl

swap_plain : (x : SwapWidth) → is_plain (swap_suffix x) ≡ true
swap_plain swap.Two = refl
swap_plain swap.Four = refl
swap_plain swap.Eight = refl

width_plain : (x : Width) → is_plain (width_suffix x) ≡ true
width_plain width.One = refl
width_plain width.Two = refl
width_plain width.Four = refl
width_plain width.Eight = refl

signed_plain : (x : SignedWidth) → is_plain (signed_width_suffix x) ≡ true
signed_plain signed_width.One = refl
signed_plain signed_width.Two = refl
signed_plain signed_width.Four = refl

call_plain : (x : CallKind) → is_plain (call_suffix x) ≡ true
call_plain Helper = refl
call_plain Kernel = refl

stem_plain : (m : Mnemonic) → is_plain (stem_of m) ≡ true
stem_plain (Alu op size) = alu_plain op
stem_plain (MoveSigned size) = refl
stem_plain (Negate size) = refl
stem_plain (ByteSwap order width) = order_plain order
stem_plain LoadNumber = refl
stem_plain LoadMap = refl
stem_plain Jump = refl
stem_plain JumpLong = refl
stem_plain (JumpIf condition size) = condition_plain condition
stem_plain (Call kind) = refl
stem_plain Exit = refl
stem_plain (Load width) = refl
stem_plain (LoadSigned width) = refl
stem_plain (Store width) = refl
stem_plain (StoreRegister width) = refl

suffix_plain : (m : Mnemonic) → is_plain (suffix_of m) ≡ true
suffix_plain (Alu op size) = size_plain size
suffix_plain (MoveSigned size) = size_plain size
suffix_plain (Negate size) = size_plain size
suffix_plain (ByteSwap order width) = swap_plain width
suffix_plain LoadNumber = refl
suffix_plain LoadMap = refl
suffix_plain Jump = refl
suffix_plain JumpLong = refl
suffix_plain (JumpIf condition size) = jump_plain size
suffix_plain (Call kind) = call_plain kind
suffix_plain Exit = refl
suffix_plain (Load width) = width_plain width
suffix_plain (LoadSigned width) = signed_plain width
suffix_plain (Store width) = width_plain width
suffix_plain (StoreRegister width) = width_plain width

plain_append : (xs ys : List ℕ) → is_plain xs ≡ true → is_plain ys ≡ true → is_plain (xs ++ ys) ≡ true
plain_append [] ys f g = g
plain_append (x ∷ xs) ys f g =
    let parts = and_parts (is_low x || is_figure x) (is_plain xs) f in
    rw (parts.0, plain_append xs ys parts.1 g) refl

pub mnemonic_plain : (m : Mnemonic) → is_plain (mnemonic_text m) ≡ true
mnemonic_plain m = plain_append (stem_of m) (suffix_of m) (stem_plain m) (suffix_plain m)

begins_append : (xs ys : List ℕ) → begins_low xs ≡ true → begins_low (xs ++ ys) ≡ true
begins_append [] ys h = cc h
begins_append (x ∷ xs) ys h = h

alu_begins : (x : AluOp) → begins_low (alu_stem x) ≡ true
alu_begins alu.Add = refl
alu_begins op = refl

condition_begins : (x : Condition) → begins_low (condition_stem x) ≡ true
condition_begins condition.Equal = refl
condition_begins condition.Greater = refl
condition_begins condition.GreaterOrEqual = refl
condition_begins condition.SharesBits = refl
condition_begins condition.NotEqual = refl
condition_begins condition.SignedGreater = refl
condition_begins condition.SignedGreaterOrEqual = refl
condition_begins condition.Less = refl
condition_begins condition.LessOrEqual = refl
condition_begins condition.SignedLess = refl
condition_begins condition.SignedLessOrEqual = refl

order_begins : (x : ByteOrder) → begins_low (order_stem x) ≡ true
order_begins ToLittle = refl
order_begins ToBig = refl
order_begins Swap = refl

stem_begins : (m : Mnemonic) → begins_low (stem_of m) ≡ true
stem_begins (Alu op size) = alu_begins op
stem_begins (MoveSigned size) = refl
stem_begins (Negate size) = refl
stem_begins (ByteSwap order width) = order_begins order
stem_begins LoadNumber = refl
stem_begins LoadMap = refl
stem_begins Jump = refl
stem_begins JumpLong = refl
stem_begins (JumpIf condition size) = condition_begins condition
stem_begins (Call kind) = refl
stem_begins Exit = refl
stem_begins (Load width) = refl
stem_begins (LoadSigned width) = refl
stem_begins (Store width) = refl
stem_begins (StoreRegister width) = refl

pub mnemonic_begins : (m : Mnemonic) → begins_low (mnemonic_text m) ≡ true
mnemonic_begins m = begins_append (stem_of m) (suffix_of m) (stem_begins m)
