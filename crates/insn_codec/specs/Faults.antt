-- Why bytes are no program: the length is tested first, then each instruction from the first slot
-- on, and the first test that fails is told. Each test stands with its section of RFC 9669.
use Rattle.std.specs.Prelude.{◌≡◌, ◌≢◌, ℕ, ◌*◌, ◌<◌, ℤ, pos, ◌==◌, Bool, true, false, ◌||◌, ◌&&◌}
use Rattle.std.specs.Prelude.{not, nat_lt, Option, Some, None, List, [], ◌∷◌, if◌then◌else◌, ◌++◌}
use Rattle.std.specs.Prelude.{◌%◌, length}
use Rattle.std.specs.Ordering.{int_eq}
use Rattle.bpf_model.specs.declared.slot.Slot.{Slot}
use Rattle.bpf_model.specs.declared.opcode.Source.{Source}
use Rattle.bpf_model.specs.declared.opcode.Source.TheVariants as source
use Rattle.bpf_model.specs.declared.opcode.AluCode.{AluCode}
use Rattle.bpf_model.specs.declared.opcode.AluCode.TheVariants as code
use Rattle.bpf_model.specs.declared.opcode.Opcode.{Opcode}
use Rattle.bpf_model.specs.declared.opcode.Opcode.TheVariants.{Alu, Negate, ByteSwap, Jump, JumpIf}
use Rattle.bpf_model.specs.declared.opcode.Opcode.TheVariants.{Call, Exit, Load, LoadSigned, Store}
use Rattle.bpf_model.specs.declared.opcode.Opcode.TheVariants.{Wide, Excluded}
use Rattle.bpf_model.specs.declared.opcode.Size.TheVariants.{Word32, Word64}
use Rattle.bpf_model.specs.declared.limits.TheConstants.{MAX_SLOTS}
use Rattle.bpf_model.specs.Opcode.{opcode_byte}
use Rattle.std.specs.List.{AllByRecursion}
use Rattle.bpf_model.specs.declared.insn.Insn.{Insn}
use Rattle.bpf_model.specs.Spelling.{slot_at, next_slot_at, FitsInsn, text}
use Rattle.bpf_model.specs.Places.{slot_total}
use Rattle.insn_codec.specs.declared.fault.DecodeFault.{DecodeFault}
use Rattle.insn_codec.specs.declared.fault.DecodeFault.TheVariants as faults
use Rattle.insn_codec.specs.declared.flaw.InsnFlaw.{InsnFlaw}
use Rattle.insn_codec.specs.declared.flaw.InsnFlaw.TheVariants.{UnknownOpcode, OutsideProfile}
use Rattle.insn_codec.specs.declared.flaw.InsnFlaw.TheVariants.{BadRegister, UnsupportedSource}
use Rattle.insn_codec.specs.declared.flaw.InsnFlaw.TheVariants.{UnusedField, BadOffset, BadWidth}
use Rattle.insn_codec.specs.declared.flaw.InsnFlaw.TheVariants.{WideCut, WideTail}

-- One instruction.

-- which fields of its first slot an instruction uses besides the opcode (sections 3.1, 3.2)
pub record UsedFields : Type 0 where
  pub dst : Bool
  pub src : Bool
  pub offset : Bool
  pub imm : Bool

-- the offset tells signed division and modulo, and moves with sign extension (section 4.1)
abbrev pub uses_offset : AluCode → Source → Bool
uses_offset code.Div _ = true
uses_offset code.Mod _ = true
uses_offset code.Move source.Register = true
uses_offset _ _ = false

abbrev pub is_register_source : Source → Bool
is_register_source source.Register = true
is_register_source source.Immediate = false

-- whether dst, src, offset and imm are used
abbrev pub used : Bool → Bool → Bool → Bool → UsedFields
used dst src offset imm = record { dst = dst; src = src; offset = offset; imm = imm }

abbrev pub used_fields : Opcode → UsedFields
used_fields (Alu code size source) =
    used true (is_register_source source) (uses_offset code source)
    (not (is_register_source source))
used_fields (Negate size) = used true false false false
used_fields (ByteSwap order) = used true false false true
used_fields (Jump Word64) = used false false true false
used_fields (Jump Word32) = used false false false true
used_fields (JumpIf condition size source) =
    used true (is_register_source source) true (not (is_register_source source))
used_fields Call = used false true false true
used_fields Exit = used false false false false
used_fields (Load width) = used true true true false
used_fields (LoadSigned width) = used true true true false
used_fields (Store width source) =
    used true (is_register_source source) true (not (is_register_source source))
used_fields Wide = used true true false true
used_fields (Excluded excluded) = used false false false false

-- a field that is not used is not 0 (section 3.1)
abbrev pub has_unused : UsedFields → Slot → Bool
has_unused f s =
    (not f.dst && not (s.dst == 0)) ||
    (not f.src && not (s.src == 0)) ||
    (not f.offset && not (int_eq s.offset (pos 0))) ||
    (not f.imm && not (int_eq s.imm (pos 0)))

-- A source field that is not taken: calls are of helpers (0) and of kernel functions (2; section
-- 4.3), and wide instructions load a number (0) or a map of the program's list (5; section 5.4).
abbrev pub has_unsupported_source : Opcode → Slot → Bool
has_unsupported_source Call s = not (s.src == 0 || s.src == 2)
has_unsupported_source Wide s = not (s.src == 0 || s.src == 5)
has_unsupported_source _ s = false

abbrev pub is_none_of : ℤ → List ℕ → Bool
is_none_of z [] = true
is_none_of z (n ∷ ns) = not (int_eq z (pos n)) && is_none_of z ns

-- an offset that means nothing for a division, a modulo or a move (section 4.1)
abbrev pub has_bad_offset : Opcode → Slot → Bool
has_bad_offset (Alu code.Div size source) s = is_none_of s.offset (0 ∷ 1 ∷ [])
has_bad_offset (Alu code.Mod size source) s = is_none_of s.offset (0 ∷ 1 ∷ [])
has_bad_offset (Alu code.Move Word32 source.Register) s = is_none_of s.offset (0 ∷ 8 ∷ 16 ∷ [])
has_bad_offset (Alu code.Move Word64 source.Register) s = is_none_of s.offset (0 ∷ 8 ∷ 16 ∷ 32 ∷ [])
has_bad_offset _ s = false

-- a byte swap of other than 16, 32 or 64 bits (section 4.2)
abbrev pub has_bad_width : Opcode → Slot → Bool
has_bad_width (ByteSwap order) s = is_none_of s.imm (16 ∷ 32 ∷ 64 ∷ [])
has_bad_width _ s = false

-- The second slot of a wide instruction is zero but for imm, which is zero too where the source is
-- a map (sections 3.2 and 5.4).
abbrev pub is_tail : Slot → Slot → Bool
is_tail s t =
    (t.opcode == 0) &&
    (t.dst == 0) &&
    (t.src == 0) &&
    int_eq t.offset (pos 0) &&
    (s.src == 0 || int_eq t.imm (pos 0))

abbrev pub tail_flaw : Opcode → Slot → Option Slot → Option InsnFlaw
tail_flaw Wide s None = Some WideCut
tail_flaw Wide s (Some t) = if is_tail s t then None else Some WideTail
tail_flaw _ _ _ = None

-- The first of the tests that follow that of the opcode, in their order; registers are 0 to 10
-- (section 3.1).
abbrev pub flaw_with : Opcode → Slot → Option Slot → Option InsnFlaw
flaw_with o s next =
    if nat_lt 10 s.dst || nat_lt 10 s.src then Some BadRegister else
    if has_unsupported_source o s then Some UnsupportedSource else
    if has_unused (used_fields o) s then Some UnusedField else
    if has_bad_offset o s then Some BadOffset else
    if has_bad_width o s then Some BadWidth else
    tail_flaw o s next

-- the opcode that a byte stands for, if it stands for one (sections 3 to 5)
abbrev pub IsOpcode : ℕ → Option Opcode → Type 0
IsOpcode byte None = (o : Opcode) → opcode_byte o ≢ byte
IsOpcode byte (Some o) = opcode_byte o ≡ byte

-- the opcodes of the groups packet, atomic32 and atomic64, which this runtime leaves out (section 2.4)
abbrev pub is_excluded : Opcode → Bool
is_excluded (Excluded excluded) = true
is_excluded _ = false

abbrev pub first_flaw : Option Opcode → Slot → Option Slot → Option InsnFlaw
first_flaw None s next = Some UnknownOpcode
first_flaw (Some o) s next = if is_excluded o then Some OutsideProfile else flaw_with o s next

-- the first flaw of the instruction that begins with this slot
abbrev pub IsInsnFlaw : Slot → Option Slot → InsnFlaw → Type 0
IsInsnFlaw s next f = (o : Option Opcode) × IsOpcode s.opcode o × (first_flaw o s next ≡ Some f)

-- the first flaw of the instruction at the front of the bytes
abbrev pub IsInsnFlawAt : List ℕ → InsnFlaw → Type 0
IsInsnFlawAt bytes f = IsInsnFlaw (slot_at bytes) (next_slot_at bytes) f

-- The whole input.

-- The bytes are the texts of instructions up to this slot, and there the flaw is the first.
pub record IsFirstInsnFlaw (bytes : List ℕ) (f : InsnFlaw) (slot : ℕ) : Type 0 where
  pub front : List Insn
  pub fits : AllByRecursion FitsInsn front
  pub slot_is : slot_total front ≡ slot
  pub rest : List ℕ
  pub parts : bytes ≡ text front ++ rest
  pub more : 0 < length rest
  pub flaw : IsInsnFlawAt rest f

-- the fault of an input whose length is right
abbrev pub IsInsnDecodeFault : List ℕ → DecodeFault → Type 0
IsInsnDecodeFault bytes faults.Memory = Unit {0}
IsInsnDecodeFault bytes (faults.Insn flaw slot) = IsFirstInsnFlaw bytes flaw slot
IsInsnDecodeFault bytes _ = ⊥

-- what the length alone refuses: a slot has eight bytes
abbrev pub length_fault : List ℕ → Option DecodeFault
length_fault bytes =
    if not (length bytes % 8 == 0) then Some faults.Length else
    if length bytes == 0 then Some faults.Empty else
    if nat_lt (8 * MAX_SLOTS) (length bytes) then Some faults.TooLong else
    None

-- Why the bytes are no program; that memory ran out may be said of any.
abbrev pub IsDecodeFault : List ℕ → DecodeFault → Type 0
IsDecodeFault bytes faults.Memory = Unit {0}
IsDecodeFault bytes (faults.Insn flaw slot) =
    (length_fault bytes ≡ None) × IsFirstInsnFlaw bytes flaw slot
IsDecodeFault bytes f = length_fault bytes ≡ Some f

-- The numbers by which faults are known (docs/REFUSALS.md).

abbrev pub insn_flaw_number : InsnFlaw → ℕ
insn_flaw_number UnknownOpcode = 4
insn_flaw_number OutsideProfile = 5
insn_flaw_number BadRegister = 6
insn_flaw_number UnsupportedSource = 7
insn_flaw_number UnusedField = 8
insn_flaw_number BadOffset = 9
insn_flaw_number BadWidth = 10
insn_flaw_number WideCut = 11
insn_flaw_number WideTail = 12

abbrev pub decode_fault_number : DecodeFault → ℕ
decode_fault_number faults.Length = 1
decode_fault_number faults.Empty = 2
decode_fault_number faults.TooLong = 3
decode_fault_number (faults.Insn flaw slot) = insn_flaw_number flaw
decode_fault_number faults.Memory = 13

-- the slot where the instruction begins that is at fault
abbrev pub decode_fault_slot : DecodeFault → Option ℕ
decode_fault_slot (faults.Insn flaw slot) = Some slot
decode_fault_slot _ = None
