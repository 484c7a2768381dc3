-- The bytes of a program's slots are bytes.
use Rattle.bpf_model.proofs.Prelude.{ℕ, zero, suc, ◌+◌, ◌*◌, ◌/◌, ◌^◌, ◌<◌, ◌≤◌, List, [], ◌∷◌, ◌++◌, arith, ℤ, pos, w16, w32, cast_signed, byte_at, flat_map}
use Rattle.bpf_model.proofs.Prelude.{AllByRecursion, opcode_byte, slot_bytes, slots_of, first_slot, tail_slot, opcode_of, operand_src, call_source, FitsInsn}
use Rattle.bpf_model.proofs.Prelude.{FitsOperand}
use Rattle.model_laws.proofs.Prelude.{Slot, Operand, Negate, ByteSwap, MoveSigned, CallKind, Kernel, Insn, Alu, Unary, LoadNumber, LoadMap, Jump, JumpLong}
use Rattle.model_laws.proofs.Prelude.{JumpIf, Call, Exit, Load, LoadSigned, Store}
use Rattle.std.specs.Int.{cast_unsigned}
use Rattle.hex.specs.Hex.{IsBytes}
use Rattle.bpf_model.specs.declared.opcode.Opcode.{Opcode}
use Rattle.bpf_model.specs.declared.insn.Operand.TheVariants as operand
use Rattle.bpf_model.specs.declared.insn.CallKind.TheVariants.{Helper}

-- the bytes of a slot are bytes
abbrev pub IsSmall : Slot → Type 0
IsSmall s = IsBytes (slot_bytes s)

one_more : (b : ℕ) (bytes : List ℕ) → b < 256 → IsBytes bytes → IsBytes (b ∷ bytes)
one_more b bytes small h zero = small
one_more b bytes small h (suc i) = h i

none_left : IsBytes []
none_left i = omega arith

eight : (a b c d e f g h : ℕ) → a < 256 → b < 256 → c < 256 → d < 256 → e < 256 → f < 256 → g < 256 → h < 256 →
    IsBytes (a ∷ b ∷ c ∷ d ∷ e ∷ f ∷ g ∷ h ∷ [])
eight a b c d e f g h ka kb kc kd ke kf kg kh =
    one_more a (b ∷ c ∷ d ∷ e ∷ f ∷ g ∷ h ∷ []) ka (one_more b (c ∷ d ∷ e ∷ f ∷ g ∷ h ∷ []) kb
    (one_more c (d ∷ e ∷ f ∷ g ∷ h ∷ []) kc (one_more d (e ∷ f ∷ g ∷ h ∷ []) kd (one_more e (f ∷ g ∷ h ∷ []) ke
    (one_more f (g ∷ h ∷ []) kf (one_more g (h ∷ []) kg (one_more h [] kh none_left)))))))

byte_small : (i n : ℕ) → byte_at i n < 256
byte_small zero n = omega arith
byte_small (suc i) n = omega arith

slot_small : (s : Slot) → s.opcode < 256 → s.dst ≤ 10 → s.src ≤ 10 → IsSmall s
slot_small s opcode dst src =
    let n = cast_unsigned w16 s.offset in
    let m = cast_unsigned w32 s.imm in
    eight s.opcode (16 * s.src + s.dst) (byte_at 0 n) (byte_at 1 n) (byte_at 0 m) (byte_at 1 m) (byte_at 2 m) (byte_at 3 m)
    opcode (omega arith) (byte_small 0 n) (byte_small 1 n) (byte_small 0 m) (byte_small 1 m) (byte_small 2 m) (byte_small 3 m)

opcode_small : (o : Opcode) → opcode_byte o < 256
opcode_small o = grind arith

tail_small : (imm : ℤ) → IsSmall (tail_slot imm)
tail_small imm = slot_small (tail_slot imm) (omega arith) (omega arith) (omega arith)

none : 0 ≤ 10
none = omega arith

five : 5 ≤ 10
five = omega arith

src_small : (o : Operand) → FitsOperand o → operand_src o ≤ 10
src_small (operand.Register src) f = f
src_small (operand.Immediate imm) f = none

kind_small : (k : CallKind) → call_source k ≤ 10
kind_small Helper = none
kind_small Kernel = omega arith

-- the first slot of an instruction whose fields are in their ranges
first_small : (i : Insn) → FitsInsn i → IsSmall (first_slot i)
first_small (Alu op size dst src) f =
    let i = Alu op size dst src in slot_small (first_slot i) (opcode_small (opcode_of i)) f.0 (src_small src f.1)
first_small (Unary (Negate size) dst) f =
    let i = Unary (Negate size) dst in slot_small (first_slot i) (opcode_small (opcode_of i)) f.0 none
first_small (Unary (ByteSwap order width) dst) f =
    let i = Unary (ByteSwap order width) dst in slot_small (first_slot i) (opcode_small (opcode_of i)) f.0 none
first_small (Unary (MoveSigned extension src) dst) f =
    let i = Unary (MoveSigned extension src) dst in slot_small (first_slot i) (opcode_small (opcode_of i)) f.0 f.1
first_small (LoadNumber dst number) f =
    let i = LoadNumber dst number in slot_small (first_slot i) (opcode_small (opcode_of i)) f.0 none
first_small (LoadMap dst map) f = let i = LoadMap dst map in slot_small (first_slot i) (opcode_small (opcode_of i)) f.0 five
first_small (Jump offset) f = let i = Jump offset in slot_small (first_slot i) (opcode_small (opcode_of i)) none none
first_small (JumpLong imm) f = let i = JumpLong imm in slot_small (first_slot i) (opcode_small (opcode_of i)) none none
first_small (JumpIf condition size dst src offset) f =
    let i = JumpIf condition size dst src offset in
    slot_small (first_slot i) (opcode_small (opcode_of i)) f.0 (src_small src f.1)
first_small (Call kind imm) f = let i = Call kind imm in slot_small (first_slot i) (opcode_small (opcode_of i)) none (kind_small kind)
first_small Exit f = slot_small (first_slot Exit) (opcode_small (opcode_of Exit)) none none
first_small (Load width dst src offset) f =
    let i = Load width dst src offset in slot_small (first_slot i) (opcode_small (opcode_of i)) f.0 f.1
first_small (LoadSigned width dst src offset) f =
    let i = LoadSigned width dst src offset in slot_small (first_slot i) (opcode_small (opcode_of i)) f.0 f.1
first_small (Store width dst offset src) f =
    let i = Store width dst offset src in slot_small (first_slot i) (opcode_small (opcode_of i)) f.0 (src_small src f.1)

-- each of its slots
insn_small : (i : Insn) → FitsInsn i → AllByRecursion IsSmall (slots_of i)
insn_small (LoadNumber dst number) f = (first_small (LoadNumber dst number) f, (tail_small (cast_signed w32 (number / 2 ^ 32)), tt))
insn_small (LoadMap dst map) f = (first_small (LoadMap dst map) f, (tail_small (pos 0), tt))
insn_small i f = (first_small i f, tt)

both : (a b : List Slot) → AllByRecursion IsSmall a → AllByRecursion IsSmall b → AllByRecursion IsSmall (a ++ b)
both [] b h k = k
both (s ∷ a) b h k = (h.0, both a b h.1 k)

-- each slot of a program
pub slots_small : (program : List Insn) → AllByRecursion FitsInsn program → AllByRecursion IsSmall (flat_map slots_of program)
slots_small [] f = tt
slots_small (i ∷ program) f = both (slots_of i) (flat_map slots_of program) (insn_small i f.0) (slots_small program f.1)
