-- Names have letters and digits alone, and begin with a letter.
use Rattle.bpf_model.proofs.Prelude.{ℕ, ◌≡◌, ◌≢◌, ◌<◌, Bool, true, false, ◌&&◌, List, [], ◌∷◌, ◌++◌, refl, arith, ltb, nat_tests, and_parts}
use Rattle.bpf_model.specs.declared.opcode.Size.{Size}
use Rattle.bpf_model.specs.declared.opcode.Size.TheVariants.{Word32, Word64}
use Rattle.bpf_model.specs.declared.opcode.Width.{Width}
use Rattle.bpf_model.specs.declared.opcode.Width.TheVariants as width
use Rattle.bpf_model.specs.declared.opcode.SignedWidth.{SignedWidth}
use Rattle.bpf_model.specs.declared.opcode.SignedWidth.TheVariants as signed_width
use Rattle.bpf_model.specs.declared.opcode.SwapWidth.{SwapWidth}
use Rattle.bpf_model.specs.declared.opcode.SwapWidth.TheVariants as swap
use Rattle.bpf_model.specs.declared.opcode.ByteOrder.{ByteOrder}
use Rattle.bpf_model.specs.declared.opcode.ByteOrder.TheVariants.{ToLittle, ToBig, Swap}
use Rattle.bpf_model.specs.declared.opcode.Condition.{Condition}
use Rattle.bpf_model.specs.declared.opcode.Condition.TheVariants as condition
use Rattle.bpf_model.specs.declared.insn.AluOp.{AluOp}
use Rattle.bpf_model.specs.declared.insn.AluOp.TheVariants as alu
use Rattle.bpf_model.specs.declared.insn.CallKind.{CallKind}
use Rattle.bpf_model.specs.declared.insn.CallKind.TheVariants.{Helper, Kernel}
use Rattle.disasm.specs.declared.mnemonic.Mnemonic.{Mnemonic}
use Rattle.disasm.specs.declared.mnemonic.Mnemonic.TheVariants.{Alu, MoveSigned, Negate, ByteSwap, LoadNumber, LoadMap, Jump, JumpLong, JumpIf, Call, Exit}
use Rattle.disasm.specs.declared.mnemonic.Mnemonic.TheVariants.{Load, LoadSigned, Store, StoreRegister}
use Rattle.disasm.specs.Text.{mnemonic_text, stem_of, suffix_of, alu_stem, condition_stem, order_stem, size_suffix, jump_suffix, swap_suffix, width_suffix}
use Rattle.disasm.specs.Text.{signed_width_suffix, call_suffix}
use Rattle.asm.specs.Reading.{Lacks}
use Rattle.asm.specs.Faults.{is_comment}
use Rattle.asm.proofs.Lacking.{lacks_cons, lacks_append, nil_lacks}

-- no byte is below the digits
abbrev is_plain : List ℕ → Bool
is_plain [] = true
is_plain (b ∷ bs) = ltb 47 b && is_plain bs

above : (b c : ℕ) → c < 48 → ltb 47 b ≡ true → b ≢ c
above b c small e = grind (arith, nat_tests)

plain_lacks : (c : ℕ) (bs : List ℕ) → c < 48 → is_plain bs ≡ true → Lacks c bs
plain_lacks c [] small h = nil_lacks c
plain_lacks c (b ∷ bs) small h =
    let parts : (ltb 47 b ≡ true) × (is_plain bs ≡ true) = and_parts (ltb 47 b) (is_plain bs) h in
    lacks_cons c b bs (above b c small parts.0) (plain_lacks c bs small parts.1)

alu_plain : (x : AluOp) → is_plain (alu_stem x) ≡ true
alu_plain alu.Add = refl
alu_plain x = refl

condition_plain : (x : Condition) → is_plain (condition_stem x) ≡ true
condition_plain condition.Equal = refl
condition_plain x = refl

order_plain : (x : ByteOrder) → is_plain (order_stem x) ≡ true
order_plain ToLittle = refl
order_plain ToBig = refl
order_plain Swap = refl

size_plain : (x : Size) → is_plain (size_suffix x) ≡ true
size_plain Word32 = refl
size_plain Word64 = refl

jump_plain : (x : Size) → is_plain (jump_suffix x) ≡ true
jump_plain Word32 = refl
jump_plain Word64 = refl

swap_plain : (x : SwapWidth) → is_plain (swap_suffix x) ≡ true
swap_plain swap.Two = refl
swap_plain x = refl

width_plain : (x : Width) → is_plain (width_suffix x) ≡ true
width_plain width.One = refl
width_plain x = refl

signed_plain : (x : SignedWidth) → is_plain (signed_width_suffix x) ≡ true
signed_plain signed_width.One = refl
signed_plain x = refl

call_plain : (x : CallKind) → is_plain (call_suffix x) ≡ true
call_plain Helper = refl
call_plain Kernel = refl

stem_plain : (m : Mnemonic) → is_plain (stem_of m) ≡ true
stem_plain (Alu op size) = alu_plain op
stem_plain (MoveSigned size) = refl
stem_plain (Negate size) = refl
stem_plain (ByteSwap order width) = order_plain order
stem_plain LoadNumber = refl
stem_plain LoadMap = refl
stem_plain Jump = refl
stem_plain JumpLong = refl
stem_plain (JumpIf condition size) = condition_plain condition
stem_plain (Call kind) = refl
stem_plain Exit = refl
stem_plain (Load width) = refl
stem_plain (LoadSigned width) = refl
stem_plain (Store width) = refl
stem_plain (StoreRegister width) = refl

suffix_plain : (m : Mnemonic) → is_plain (suffix_of m) ≡ true
suffix_plain (Alu op size) = size_plain size
suffix_plain (MoveSigned size) = size_plain size
suffix_plain (Negate size) = size_plain size
suffix_plain (ByteSwap order width) = swap_plain width
suffix_plain LoadNumber = refl
suffix_plain LoadMap = refl
suffix_plain Jump = refl
suffix_plain JumpLong = refl
suffix_plain (JumpIf condition size) = jump_plain size
suffix_plain (Call kind) = call_plain kind
suffix_plain Exit = refl
suffix_plain (Load width) = width_plain width
suffix_plain (LoadSigned width) = signed_plain width
suffix_plain (Store width) = width_plain width
suffix_plain (StoreRegister width) = width_plain width

-- no name has a space or a line feed
pub name_lacks_any : (c : ℕ) → c < 48 → (m : Mnemonic) → Lacks c (mnemonic_text m)
name_lacks_any c small m = lacks_append c (stem_of m) (suffix_of m) (plain_lacks c (stem_of m) small (stem_plain m))
    (plain_lacks c (suffix_of m) small (suffix_plain m))

pub name_lacks : (m : Mnemonic) → Lacks 32 (mnemonic_text m)
name_lacks m = name_lacks_any 32 (omega arith) m

-- no name begins as a comment
alu_statement : (x : AluOp) (rest : List ℕ) → is_comment (alu_stem x ++ rest) ≡ false
alu_statement alu.Add rest = refl
alu_statement x rest = refl

condition_statement : (x : Condition) (rest : List ℕ) → is_comment (condition_stem x ++ rest) ≡ false
condition_statement condition.Equal rest = refl
condition_statement x rest = refl

order_statement : (x : ByteOrder) (rest : List ℕ) → is_comment (order_stem x ++ rest) ≡ false
order_statement ToLittle rest = refl
order_statement ToBig rest = refl
order_statement Swap rest = refl

pub stem_statement : (m : Mnemonic) (rest : List ℕ) → is_comment (stem_of m ++ rest) ≡ false
stem_statement (Alu op size) rest = alu_statement op rest
stem_statement (MoveSigned size) rest = refl
stem_statement (Negate size) rest = refl
stem_statement (ByteSwap order width) rest = order_statement order rest
stem_statement LoadNumber rest = refl
stem_statement LoadMap rest = refl
stem_statement Jump rest = refl
stem_statement JumpLong rest = refl
stem_statement (JumpIf condition size) rest = condition_statement condition rest
stem_statement (Call kind) rest = refl
stem_statement Exit rest = refl
stem_statement (Load width) rest = refl
stem_statement (LoadSigned width) rest = refl
stem_statement (Store width) rest = refl
stem_statement (StoreRegister width) rest = refl
