-- An instruction at the front of bytes, and its slots.
use Rattle.bpf_model.proofs.Prelude.{◌≡◌, ℕ, ◌*◌, ◌/◌, ◌%◌, ◌^◌, ◌<◌, ◌≤◌, List, [], ◌∷◌, ◌++◌, length, take, drop, Option, Some, None, refl, sym, ap, subst}
use Rattle.bpf_model.proofs.Prelude.{◌∙◌, arith, ℤ, pos, inl, inr, w16, w32, cast_signed, FitsSigned, option_to_list, flat_map, ints, opcode_byte, slot_bytes}
use Rattle.bpf_model.proofs.Prelude.{slot_at, next_slot_at, FitsSlot, FitsOperand, FitsInsn, spelling, slots_of, first_slot, tail_slot, opcode_of, alu_offset}
use Rattle.bpf_model.proofs.Prelude.{operand_src, extension_bits, swap_bits, call_source, slot_count, cases_lt, lt-ltb, le-ltb, drop-drop, length-append}
use Rattle.bpf_model.proofs.Prelude.{length-drop}
use Rattle.bpf_model.specs.declared.slot.Slot.{Slot}
use Rattle.bpf_model.specs.declared.opcode.Opcode.{Opcode}
use Rattle.bpf_model.specs.declared.opcode.SwapWidth.{SwapWidth}
use Rattle.bpf_model.specs.declared.opcode.SwapWidth.TheVariants as swap
use Rattle.bpf_model.specs.declared.insn.Operand.{Operand}
use Rattle.bpf_model.specs.declared.insn.Operand.TheVariants as operand
use Rattle.bpf_model.specs.declared.insn.UnaryOp.TheVariants.{Negate, ByteSwap, MoveSigned}
use Rattle.bpf_model.specs.declared.insn.AluOp.{AluOp}
use Rattle.bpf_model.specs.declared.insn.AluOp.TheVariants as operations
use Rattle.bpf_model.specs.declared.insn.SignExtension.{SignExtension}
use Rattle.bpf_model.specs.declared.insn.SignExtension.TheVariants.{ByteTo32, ShortTo32, ByteTo64, ShortTo64, WordTo64}
use Rattle.bpf_model.specs.declared.insn.CallKind.{CallKind}
use Rattle.bpf_model.specs.declared.insn.CallKind.TheVariants.{Helper, Kernel}
use Rattle.bpf_model.specs.declared.insn.Insn.{Insn}
use Rattle.bpf_model.specs.declared.insn.Insn.TheVariants.{Alu, Unary, LoadNumber, LoadMap, Jump, JumpLong, JumpIf, Call, Exit, Load, LoadSigned, Store}
use Rattle.bpf_model.specs.Spelling.{operand_imm}
use Rattle.insn_codec.proofs.SlotLaws.{IsBytes, IsBytes-drop, slot_again, slot_at-slot_bytes}
use Rattle.insn_codec.specs.Begins.{BeginsWith}
use Rattle.insn_codec.proofs.InsnLaws.{IsOneSlot, IsTwoSlots, shape, begins_parts}

next_none : (bytes : List ℕ) → length bytes < 16 → next_slot_at bytes ≡ None
next_none bytes lt = rw (lt-ltb _ _ lt) refl

next_some : (bytes : List ℕ) → 16 ≤ length bytes → next_slot_at bytes ≡ Some (slot_at (drop 8 bytes))
next_some bytes le = rw (le-ltb _ _ le) refl

pub record Front (i : Insn) (bytes : List ℕ) : Type 0 where
  pub within : 8 * slot_count i ≤ length bytes
  pub parts : bytes ≡ spelling i ++ drop (8 * slot_count i) bytes

one_slot : (bytes : List ℕ) (s : Slot) → IsBytes bytes → 8 ≤ length bytes → s ≡ slot_at bytes → bytes ≡ flat_map slot_bytes (s ∷ []) ++ drop 8 bytes
one_slot bytes s small long e = rw e (slot_again bytes small long)

two_slots : (bytes : List ℕ) (s t : Slot) → IsBytes bytes → 16 ≤ length bytes → s ≡ slot_at bytes →
    t ≡ slot_at (drop 8 bytes) → bytes ≡ flat_map slot_bytes (s ∷ t ∷ []) ++ drop 16 bytes
two_slots bytes s t small long e f =
    let a = slot_again bytes small (omega arith) in
    let b = slot_again (drop 8 bytes) (IsBytes-drop 8 bytes small) (omega (arith, length-drop 8 bytes)) in
    let d : drop 8 (drop 8 bytes) ≡ drop 16 bytes = drop-drop 8 8 bytes in
    rw (e, f) (a ∙ ap (λ (x : List ℕ). slot_bytes (slot_at bytes) ++ x) (b ∙ ap (λ (x : List ℕ). slot_bytes (slot_at (drop 8 bytes)) ++ x) d))

front_of_one : (i : Insn) (bytes : List ℕ) → IsBytes bytes → 8 ≤ length bytes → slots_of i ≡ first_slot i ∷ [] →
    slot_count i ≡ 1 → first_slot i ≡ slot_at bytes → Front i bytes
front_of_one i bytes small long e n p = record { within = rw n long; parts = rw (e, n) (one_slot bytes (first_slot i) small long p) }

front_of_two : (i : Insn) (t : Slot) (bytes : List ℕ) → IsBytes bytes → 8 ≤ length bytes → slots_of i ≡ first_slot i
    ∷ t ∷ [] → slot_count i ≡ 2 → first_slot i ∷ t ∷ [] ≡ slot_at bytes ∷ take 1 (option_to_list (next_slot_at bytes))
    → Front i bytes
front_of_two i t bytes small long e n p =
    elim (cases_lt (length bytes) 16) [
      | inl lt ↦ let k = next_none bytes lt in absurd cc
      | inr le ↦
          let k = next_some bytes le in
          let a : first_slot i ≡ slot_at bytes = cc in
          let b : t ≡ slot_at (drop 8 bytes) = cc in
          record { within = rw n le; parts = rw (e, n) (two_slots bytes (first_slot i) t small le a b) }
    ]

pub front_of : (i : Insn) (bytes : List ℕ) → IsBytes bytes → 8 ≤ length bytes → BeginsWith (slot_at bytes) (next_slot_at bytes) i → Front i bytes
front_of i bytes small long e =
    elim (shape i) [
      | inl one ↦ front_of_one i bytes small long one.slots one.count (begins_parts i _ _ e).0
      | inr two ↦ front_of_two i two.tail bytes small long two.slots two.count
          (sym two.slots ∙ e ∙ ap (λ (n : ℕ). take n (slot_at bytes ∷ option_to_list (next_slot_at bytes))) two.count)
    ]

opcode_fits : (o : Opcode) → opcode_byte o < 256
opcode_fits o = grind arith

low_fits : (n : ℕ) → FitsSigned w32 (cast_signed w32 (n % 2 ^ 32))
low_fits n = omega (arith, ints)

high_fits : (n : ℕ) → n < 2 ^ 64 → FitsSigned w32 (cast_signed w32 (n / 2 ^ 32))
high_fits n lt = omega (arith, ints)

zero_16 : FitsSigned w16 (pos 0)
zero_16 = omega (arith, ints)

zero_32 : FitsSigned w32 (pos 0)
zero_32 = omega (arith, ints)

source_fits : (n : ℕ) → n ≤ 10 → n < 16
source_fits n h = omega arith

slot_fits : (o : Opcode) (dst src : ℕ) (offset imm : ℤ) → dst ≤ 10 → src ≤ 10 → FitsSigned w16 offset →
    FitsSigned w32 imm → FitsSlot (record {
      opcode = opcode_byte o;
      dst = dst;
      src = src;
      offset = offset;
      imm =
          imm;
    })
slot_fits o dst src offset imm d s f g = record { opcode = opcode_fits o; dst = source_fits dst d; src = source_fits src s; offset = f; imm = g }

none : 0 ≤ 10
none = omega arith

offset_fits : (p : AluOp) → FitsSigned w16 (alu_offset p)
offset_fits operations.Add = omega (arith, ints)
offset_fits p = omega (arith, ints)

extension_fits : (x : SignExtension) → FitsSigned w16 (extension_bits x)
extension_fits ByteTo32 = omega (arith, ints)
extension_fits ShortTo32 = omega (arith, ints)
extension_fits ByteTo64 = omega (arith, ints)
extension_fits ShortTo64 = omega (arith, ints)
extension_fits WordTo64 = omega (arith, ints)

swap_fits : (w : SwapWidth) → FitsSigned w32 (swap_bits w)
swap_fits swap.Two = omega (arith, ints)
swap_fits swap.Four = omega (arith, ints)
swap_fits swap.Eight = omega (arith, ints)

kind_fits : (k : CallKind) → call_source k ≤ 10
kind_fits Helper = omega arith
kind_fits Kernel = omega arith

five : 5 ≤ 10
five = omega arith

operand_fits : (o : Operand) → FitsOperand o → (operand_src o ≤ 10) × FitsSigned w32 (operand_imm o)
operand_fits (operand.Register src) f = (f, zero_32)
operand_fits (operand.Immediate imm) f = (none, f)

first_slot_fits : (i : Insn) → FitsInsn i → FitsSlot (first_slot i)
first_slot_fits (Alu operation size dst src) f = let o =
    operand_fits src f.1 in slot_fits (opcode_of (Alu operation size dst src)) _ _ _ _ f.0 o.0 (offset_fits operation)
    o.1
first_slot_fits (Unary (Negate size) dst) f = slot_fits (opcode_of (Unary (Negate size) dst)) _ _ _ _ f.0 none zero_16 zero_32
first_slot_fits (Unary (ByteSwap order width) dst) f = slot_fits (opcode_of (Unary (ByteSwap order width) dst)) _ _ _ _ f.0 none zero_16 (swap_fits width)
first_slot_fits (Unary (MoveSigned extension src) dst) f =
    slot_fits (opcode_of (Unary (MoveSigned extension src) dst)) _ _ _ _ f.0 f.1 (extension_fits extension) zero_32
first_slot_fits (LoadNumber dst number) f = slot_fits (opcode_of (LoadNumber dst number)) _ _ _ _ f.0 none zero_16 (low_fits number)
first_slot_fits (LoadMap dst map) f = slot_fits (opcode_of (LoadMap dst map)) _ _ _ _ f.0 five zero_16 f.1
first_slot_fits (Jump offset) f = slot_fits (opcode_of (Jump offset)) _ _ _ _ none none f zero_32
first_slot_fits (JumpLong offset) f = slot_fits (opcode_of (JumpLong offset)) _ _ _ _ none none zero_16 f
first_slot_fits (JumpIf condition size dst src offset) f = let o =
    operand_fits src f.1 in slot_fits (opcode_of (JumpIf condition size dst src offset)) _ _ _ _ f.0 o.0 f.2 o.1
first_slot_fits (Call kind function) f = slot_fits (opcode_of (Call kind function)) _ _ _ _ none (kind_fits kind) zero_16 f
first_slot_fits Exit f = slot_fits (opcode_of Exit) _ _ _ _ none none zero_16 zero_32
first_slot_fits (Load width dst src offset) f = slot_fits (opcode_of (Load width dst src offset)) _ _ _ _ f.0 f.1 f.2 zero_32
first_slot_fits (LoadSigned width dst src offset) f = slot_fits (opcode_of (LoadSigned width dst src offset)) _ _ _ _ f.0 f.1 f.2 zero_32
first_slot_fits (Store width dst offset src) f = let o = operand_fits src f.1 in slot_fits (opcode_of (Store width dst offset src)) _ _ _ _ f.0 o.0 f.2 o.1

tail_slot_fits : (imm : ℤ) → FitsSigned w32 imm → FitsSlot (tail_slot imm)
tail_slot_fits imm f = record { opcode = omega arith; dst = omega arith; src = omega arith; offset = zero_16; imm = f }

same_tail : (t u a b : Slot) → a ∷ t ∷ [] ≡ b ∷ u ∷ [] → t ≡ u
same_tail t u a b e = cc

-- the second slot of a wide instruction has its fields in their ranges
tail_fits : (i : Insn) → FitsInsn i → (two : IsTwoSlots i) → FitsSlot two.tail
tail_fits (LoadNumber dst number) f two = subst FitsSlot (same_tail _ _ _ _ two.slots) (tail_slot_fits _ (high_fits number f.1))
tail_fits (LoadMap dst map) f two = subst FitsSlot (same_tail _ _ _ _ two.slots) (tail_slot_fits _ zero_32)
tail_fits i f two = absurd (let e : 1 ≡ 2 = two.count in omega arith)

pub record Again (i : Insn) (bytes rest : List ℕ) : Type 0 where
  pub begins : BeginsWith (slot_at bytes) (next_slot_at bytes) i
  pub rest_is : drop (8 * slot_count i) bytes ≡ rest

one_again : (s : Slot) (rest : List ℕ) → FitsSlot s → s ∷ [] ≡ slot_at (slot_bytes s ++ rest) ∷ []
one_again s rest f = rw (slot_at-slot_bytes s rest f) refl

two_again : (s t : Slot) (rest : List ℕ) → FitsSlot s → FitsSlot t → s ∷ t
    ∷ [] ≡ slot_at (slot_bytes s ++ (slot_bytes t ++ rest))
    ∷ take 1 (option_to_list (next_slot_at (slot_bytes s ++ (slot_bytes t ++ rest))))
two_again s t rest f g =
    let bytes : List ℕ = slot_bytes s ++ (slot_bytes t ++ rest) in
    let a : slot_at bytes ≡ s = slot_at-slot_bytes s (slot_bytes t ++ rest) f in
    let b : slot_at (drop 8 bytes) ≡ t = slot_at-slot_bytes t rest g in
    let n : next_slot_at bytes ≡ Some t = next_some bytes
    (omega (arith, length-append (slot_bytes s) (slot_bytes t ++ rest), length-append (slot_bytes t) rest)) ∙
    ap (λ (x : Slot). Some x) b in
    ap (λ (x : Slot). x ∷ take 1 (option_to_list (Some t))) (sym a) ∙ ap (λ (o : Option Slot). slot_at bytes ∷ take 1 (option_to_list o)) (sym n)

again_one : (i : Insn) (rest : List ℕ) → IsOneSlot i → FitsSlot (first_slot i) → Again i (spelling i ++ rest) rest
again_one i rest one f = record { begins = rw (one.slots, one.count) (one_again (first_slot i) rest f); rest_is = rw (one.slots, one.count) refl }

again_two : (i : Insn) (rest : List ℕ) → (two : IsTwoSlots i) → FitsSlot (first_slot i) → FitsSlot two.tail → Again i (spelling i ++ rest) rest
again_two i rest two f g = record { begins = rw (two.slots, two.count) (two_again (first_slot i) two.tail rest f g); rest_is = rw (two.slots, two.count) refl }

pub again : (i : Insn) (rest : List ℕ) → FitsInsn i → Again i (spelling i ++ rest) rest
again i rest f = elim (shape i) [
  | inl one ↦ again_one i rest one (first_slot_fits i f)
  | inr two ↦
      again_two i rest two (first_slot_fits i f) (tail_fits i f two)
]
