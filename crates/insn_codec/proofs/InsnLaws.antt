-- An instruction is read again from its slots.
use Rattle.bpf_model.proofs.Prelude.{◌≡◌, ℕ, ◌+◌, ◌-◌, ◌*◌, ◌/◌, ◌%◌, ◌^◌, ◌<◌, Bool, false, cond, eqb, not, [], ◌∷◌, take, drop, Option, Some, None, refl}
use Rattle.bpf_model.proofs.Prelude.{sym, ap, ap₂, subst, ◌∙◌, arith, ℤ, pos, of_z, ◌⊎◌, inl, inr, int_eq, w32, cast_signed, option_to_list, of_z-to_z}
use Rattle.bpf_model.proofs.Prelude.{nat_tests, opcode_byte, FitsInsn, slots_of, first_slot, tail_slot, opcode_of, alu_offset, extension_bits, swap_bits}
use Rattle.bpf_model.proofs.Prelude.{call_source, slot_count, heads, tails}
use Rattle.bpf_model.specs.declared.slot.Slot.{Slot}
use Rattle.bpf_model.specs.declared.opcode.Size.{Size}
use Rattle.bpf_model.specs.declared.opcode.Size.TheVariants.{Word32, Word64}
use Rattle.bpf_model.specs.declared.opcode.Source.{Source}
use Rattle.bpf_model.specs.declared.opcode.Source.TheVariants as sources
use Rattle.bpf_model.specs.declared.opcode.AluCode.{AluCode}
use Rattle.bpf_model.specs.declared.opcode.AluCode.TheVariants as codes
use Rattle.bpf_model.specs.declared.opcode.Opcode.{Opcode}
use Rattle.bpf_model.specs.declared.opcode.Opcode.TheVariants as opcodes
use Rattle.bpf_model.specs.declared.opcode.SwapWidth.{SwapWidth}
use Rattle.bpf_model.specs.declared.opcode.SwapWidth.TheVariants as swap
use Rattle.bpf_model.specs.declared.insn.Operand.{Operand}
use Rattle.bpf_model.specs.declared.insn.Operand.TheVariants as operand
use Rattle.bpf_model.specs.declared.insn.AluOp.{AluOp}
use Rattle.bpf_model.specs.declared.insn.AluOp.TheVariants as operations
use Rattle.bpf_model.specs.declared.insn.SignExtension.{SignExtension}
use Rattle.bpf_model.specs.declared.insn.SignExtension.TheVariants.{ByteTo32, ShortTo32, ByteTo64, ShortTo64, WordTo64}
use Rattle.bpf_model.specs.declared.insn.UnaryOp.TheVariants.{Negate, ByteSwap, MoveSigned}
use Rattle.bpf_model.specs.declared.insn.CallKind.{CallKind}
use Rattle.bpf_model.specs.declared.insn.CallKind.TheVariants.{Helper, Kernel}
use Rattle.bpf_model.specs.declared.insn.Insn.{Insn}
use Rattle.bpf_model.specs.declared.insn.Insn.TheVariants.{Alu, Unary, LoadNumber, LoadMap, Jump, JumpLong, JumpIf, Call, Exit, Load, LoadSigned, Store}
use Rattle.bpf_model.specs.Spelling.{code_of, extension_size}
use Rattle.insn_codec.specs.Begins.{BeginsWith}
use Rattle.insn_codec.specs.Faults.{flaw_with, is_excluded}

-- An instruction has one slot or two.

pub record IsOneSlot (i : Insn) : Type 0 where
  pub slots : slots_of i ≡ first_slot i ∷ []
  pub count : slot_count i ≡ 1

pub record IsTwoSlots (i : Insn) : Type 0 where
  pub tail : Slot
  pub slots : slots_of i ≡ first_slot i ∷ tail ∷ []
  pub count : slot_count i ≡ 2

pub shape : (i : Insn) → IsOneSlot i ⊎ IsTwoSlots i
shape (LoadNumber dst number) = inr (record { tail = tail_slot (cast_signed w32 (number / 2 ^ 32)); slots = refl; count = refl })
shape (LoadMap dst map) = inr (record { tail = tail_slot (pos 0); slots = refl; count = refl })
shape i = inl (record { slots = refl; count = refl })

one_begins : (i : Insn) (s : Slot) (next : Option Slot) → IsOneSlot i → BeginsWith s next i → (first_slot i ≡ s) ×
    (drop 1 (slots_of i) ≡ take (slot_count i - 1) (option_to_list next))
one_begins i s next one e =
    let h = heads (first_slot i) s [] [] (sym one.slots ∙ e ∙ ap (λ (n : ℕ). take n (s ∷ option_to_list next)) one.count) in
    (h, rw (one.slots, one.count) refl)

two_begin : (i : Insn) (s : Slot) (next : Option Slot) → (two : IsTwoSlots i) → BeginsWith s next i →
    (first_slot i ≡ s) × (drop 1 (slots_of i) ≡ take (slot_count i - 1) (option_to_list next))
two_begin i s next two e =
    let both : first_slot i ∷ two.tail ∷ [] ≡ s ∷ take 1 (option_to_list next) = sym two.slots ∙ e ∙
    ap (λ (n : ℕ). take n (s ∷ option_to_list next)) two.count in
    let behind = tails (first_slot i) s (two.tail ∷ []) (take 1 (option_to_list next)) both in
    (heads (first_slot i) s (two.tail ∷ []) (take 1 (option_to_list next)) both, rw (two.slots, two.count) behind)

-- the first slot, and the rest of the slots
pub begins_parts : (i : Insn) (s : Slot) (next : Option Slot) → BeginsWith s next i → (first_slot i ≡ s) ×
    (drop 1 (slots_of i) ≡ take (slot_count i - 1) (option_to_list next))
begins_parts i s next e = elim (shape i) [ inl one ↦ one_begins i s next one e | inr two ↦ two_begin i s next two e ]

first_opcode : (i : Insn) → (first_slot i).opcode ≡ opcode_byte (opcode_of i)
first_opcode (Unary (Negate size) dst) = refl
first_opcode (Unary (ByteSwap order width) dst) = refl
first_opcode (Unary (MoveSigned extension src) dst) = refl
first_opcode i = refl

pub opcode_is : (i : Insn) (s : Slot) (next : Option Slot) → BeginsWith s next i → opcode_byte (opcode_of i) ≡ s.opcode
opcode_is i s next e = sym (first_opcode i) ∙ ap (λ (x : Slot). x.opcode) (begins_parts i s next e).0

pub included : (i : Insn) → is_excluded (opcode_of i) ≡ false
included (Unary (Negate size) dst) = refl
included (Unary (ByteSwap order width) dst) = refl
included (Unary (MoveSigned extension src) dst) = refl
included i = refl

pub no_flaw : (i : Insn) (s : Slot) (next : Option Slot) → FitsInsn i → BeginsWith s next i → flaw_with (opcode_of i) s next ≡ None
no_flaw (Alu operation size dst (operand.Register src)) s next fits e = grind (arith, nat_tests)
no_flaw (Alu operation size dst (operand.Immediate imm)) s next fits e = grind (arith, nat_tests)
no_flaw (Unary (Negate size) dst) s next fits e = grind (arith, nat_tests)
no_flaw (Unary (ByteSwap order width) dst) s next fits e = grind (arith, nat_tests)
no_flaw (Unary (MoveSigned extension src) dst) s next fits e = grind (arith, nat_tests)
no_flaw (LoadNumber dst number) s None fits e = absurd cc
no_flaw (LoadNumber dst number) s (Some t) fits e = grind (arith, nat_tests)
no_flaw (LoadMap dst map) s None fits e = absurd cc
no_flaw (LoadMap dst map) s (Some t) fits e = grind (arith, nat_tests)
no_flaw (Jump offset) s next fits e = grind (arith, nat_tests)
no_flaw (JumpLong offset) s next fits e = grind (arith, nat_tests)
no_flaw (JumpIf condition size dst (operand.Register src) offset) s next fits e = grind (arith, nat_tests)
no_flaw (JumpIf condition size dst (operand.Immediate imm) offset) s next fits e = grind (arith, nat_tests)
no_flaw (Call kind function) s next fits e = grind (arith, nat_tests)
no_flaw Exit s next fits e = grind (arith, nat_tests)
no_flaw (Load width dst src offset) s next fits e = grind (arith, nat_tests)
no_flaw (LoadSigned width dst src offset) s next fits e = grind (arith, nat_tests)
no_flaw (Store width dst offset (operand.Register src)) s next fits e = grind (arith, nat_tests)
no_flaw (Store width dst offset (operand.Immediate imm)) s next fits e = grind (arith, nat_tests)

-- The instruction back from its opcode and slots.

abbrev is_signed_move : AluCode → ℤ → Bool
is_signed_move codes.Move z = not (int_eq z (pos 0))
is_signed_move _ z = false

no_signed_move : (p : AluOp) → is_signed_move (code_of p) (alu_offset p) ≡ false
no_signed_move operations.Add = refl
no_signed_move p = refl

abbrev extension_for : Size → ℤ → SignExtension
extension_for Word32 z = cond (int_eq z (pos 8)) ByteTo32 ShortTo32
extension_for Word64 z = cond (int_eq z (pos 8)) ByteTo64 (cond (int_eq z (pos 16)) ShortTo64 WordTo64)

extension_again : (x : SignExtension) → (extension_for (extension_size x) (extension_bits x) ≡ x) × (int_eq (extension_bits x) (pos 0) ≡ false)
extension_again ByteTo32 = (refl, refl)
extension_again ShortTo32 = (refl, refl)
extension_again ByteTo64 = (refl, refl)
extension_again ShortTo64 = (refl, refl)
extension_again WordTo64 = (refl, refl)

abbrev width_for : ℤ → SwapWidth
width_for z = cond (int_eq z (pos 16)) swap.Two (cond (int_eq z (pos 32)) swap.Four swap.Eight)

width_again : (w : SwapWidth) → width_for (swap_bits w) ≡ w
width_again swap.Two = refl
width_again swap.Four = refl
width_again swap.Eight = refl

abbrev kind_for : ℕ → CallKind
kind_for n = cond (eqb n 0) Helper Kernel

kind_again : (k : CallKind) → kind_for (call_source k) ≡ k
kind_again Helper = refl
kind_again Kernel = refl

abbrev half : Option Slot → ℕ
half None = 0
half (Some t) = of_z w32 t.imm

-- where it is an operation of two operands, the operation is given
abbrev made : AluOp → Opcode → Slot → Option Slot → Insn
made p (opcodes.Alu code size sources.Register) s next =
    cond (is_signed_move code s.offset) (Unary (MoveSigned (extension_for size s.offset) s.src) s.dst) (Alu p size s.dst (operand.Register s.src))
made p (opcodes.Alu code size sources.Immediate) s next = Alu p size s.dst (operand.Immediate s.imm)
made p (opcodes.Negate size) s next = Unary (Negate size) s.dst
made p (opcodes.ByteSwap order) s next = Unary (ByteSwap order (width_for s.imm)) s.dst
made p opcodes.Wide s next = cond (eqb s.src 0) (LoadNumber s.dst (of_z w32 s.imm + half next * 2 ^ 32)) (LoadMap s.dst s.imm)
made p (opcodes.Jump Word64) s next = Jump s.offset
made p (opcodes.Jump Word32) s next = JumpLong s.imm
made p (opcodes.JumpIf condition size sources.Register) s next = JumpIf condition size s.dst (operand.Register s.src) s.offset
made p (opcodes.JumpIf condition size sources.Immediate) s next = JumpIf condition size s.dst (operand.Immediate s.imm) s.offset
made p opcodes.Call s next = Call (kind_for s.src) s.imm
made p opcodes.Exit s next = Exit
made p (opcodes.Load width) s next = Load width s.dst s.src s.offset
made p (opcodes.LoadSigned width) s next = LoadSigned width s.dst s.src s.offset
made p (opcodes.Store width sources.Register) s next = Store width s.dst s.offset (operand.Register s.src)
made p (opcodes.Store width sources.Immediate) s next = Store width s.dst s.offset (operand.Immediate s.imm)
made p (opcodes.Excluded excluded) s next = Exit

number_again : (n low high : ℕ) → n < 2 ^ 64 → low ≡ n % 2 ^ 32 → high ≡ n / 2 ^ 32 → low + high * 2 ^ 32 ≡ n
number_again n low high lt e f = omega arith

-- the operation of two operands; of another instruction any will do
abbrev operation_in : Insn → AluOp
operation_in (Alu p size dst src) = p
operation_in i = operations.Move

operation_one : (p q : AluOp) → code_of p ≡ code_of q → alu_offset p ≡ alu_offset q → p ≡ q
operation_one operations.Add q e f = grind arith
operation_one p q e f = grind arith

move_one : (p : AluOp) → code_of p ≡ codes.Move → p ≡ operations.Move
move_one operations.Move e = refl
move_one p e = absurd cc

same_code : (c d : AluCode) (a b : Size) (x y : Source) → opcodes.Alu c a x ≡ opcodes.Alu d b y → c ≡ d
same_code c d a b x y e = cc

operation_of_slot : (p : AluOp) (size : Size) (dst : ℕ) (src : Operand) (j : Insn) →
    opcode_of (Alu p size dst src) ≡ opcode_of j → alu_offset p ≡ (first_slot j).offset → p ≡ operation_in j
operation_of_slot p size dst src (Alu q other to from) e f = operation_one p q (same_code _ _ _ _ _ _ e) f
operation_of_slot p size dst src (Unary (MoveSigned extension from) to) e f = move_one p (same_code _ _ _ _ _ _ e)
operation_of_slot p size dst src j e f = absurd cc

operations_are : (i j : Insn) → opcode_of i ≡ opcode_of j → (first_slot i).offset ≡ (first_slot j).offset → operation_in i ≡ operation_in j
operations_are (Alu p size dst src) j e f = operation_of_slot p size dst src j e f
operations_are i (Alu q size dst src) e f = sym (operation_of_slot q size dst src i (sym e) (sym f))
operations_are i j e f = refl

made_first : (i : Insn) (next : Option Slot) → FitsInsn i →
    drop 1 (slots_of i) ≡ take (slot_count i - 1) (option_to_list next) → made (operation_in i) (opcode_of i) (first_slot i) next ≡ i
made_first (Alu p size dst (operand.Register src)) next fits e = rw (no_signed_move p) refl
made_first (Alu p size dst (operand.Immediate imm)) next fits e = refl
made_first (Unary (MoveSigned extension src) dst) next fits e = let o = extension_again extension in rw (o.1, o.0) refl
made_first (Unary (ByteSwap order width) dst) next fits e = rw (width_again width) refl
made_first (LoadNumber dst number) None fits e = absurd cc
made_first (LoadNumber dst number) (Some t) fits e =
    let a = of_z-to_z w32 (number % 2 ^ 32) (omega arith) in
    let b : of_z w32 t.imm ≡ number / 2 ^ 32 = ap (of_z w32)
    (let k : t.imm ≡ cast_signed w32 (number / 2 ^ 32) = cc in k) ∙
    of_z-to_z w32 (number / 2 ^ 32) (omega (arith, fits.1)) in
    ap (LoadNumber dst) (number_again number _ _ fits.1 a b)
made_first (Call kind function) next fits e = rw (kind_again kind) refl
made_first (Unary (Negate size) dst) next fits e = refl
made_first (LoadMap dst map) next fits e = refl
made_first (Jump offset) next fits e = refl
made_first (JumpLong offset) next fits e = refl
made_first (JumpIf condition size dst (operand.Register src) offset) next fits e = refl
made_first (JumpIf condition size dst (operand.Immediate imm) offset) next fits e = refl
made_first Exit next fits e = refl
made_first (Load width dst src offset) next fits e = refl
made_first (LoadSigned width dst src offset) next fits e = refl
made_first (Store width dst offset (operand.Register src)) next fits e = refl
made_first (Store width dst offset (operand.Immediate imm)) next fits e = refl

made_again : (i : Insn) (s : Slot) (next : Option Slot) → FitsInsn i → BeginsWith s next i → made (operation_in i) (opcode_of i) s next ≡ i
made_again i s next fits e =
    let p = begins_parts i s next e in
    subst (λ (x : Slot). made (operation_in i) (opcode_of i) x next ≡ i) p.0 (made_first i next fits p.1)

pub same : (i j : Insn) (s : Slot) (next : Option Slot) → FitsInsn i → FitsInsn j → BeginsWith s next i →
    BeginsWith s next j → opcode_of i ≡ opcode_of j → i ≡ j
same i j s next f g d e o =
    let slots : first_slot i ≡ first_slot j = (begins_parts i s next d).0 ∙ sym (begins_parts j s next e).0 in
    let offsets : (first_slot i).offset ≡ (first_slot j).offset = ap (λ (x : Slot). x.offset) slots in
    sym (made_again i s next f d) ∙ ap₂ (λ (p : AluOp) (k : Opcode). made p k s next) (operations_are i j o offsets) o ∙ made_again j s next g e
