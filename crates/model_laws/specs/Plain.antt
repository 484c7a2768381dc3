-- What an instruction reads and writes, and paths on which something is not written: words for plain
-- programs, which the verifier owes acceptance (`PlainMaps`).
use Rattle.std.specs.Prelude.{◌≡◌, ℕ, ◌+◌, ◌<◌, ◌≤◌, List, Some, ℤ, pos, ◌+ℤ◌, ◌⊎◌}
use Rattle.bpf_model.specs.declared.limits.TheConstants.{FRAME_BYTES}
use Rattle.bpf_model.specs.declared.insn.Insn.{Insn}
use Rattle.bpf_model.specs.declared.insn.Insn.TheVariants.{Alu, Unary, LoadNumber, LoadMap, JumpIf}
use Rattle.bpf_model.specs.declared.insn.Insn.TheVariants.{Call, Exit, Load, LoadSigned, Store}
use Rattle.bpf_model.specs.declared.insn.AluOp.TheVariants.{Move}
use Rattle.bpf_model.specs.declared.insn.Operand.{Operand}
use Rattle.bpf_model.specs.declared.insn.Operand.TheVariants.{Register, Immediate}
use Rattle.bpf_model.specs.declared.opcode.Width.{Width}
use Rattle.bpf_model.specs.Access.{byte_count, unsigned_width, region_offset}
use Rattle.bpf_model.specs.Operand.{unary_source}
use Rattle.bpf_model.specs.Graph.{GoesTo}
use Rattle.bpf_model.specs.Step.{insn_at}

-- the registers that an operand names
abbrev pub Names : Operand → ℕ → Type 0
Names (Register s) r = r ≡ s
Names (Immediate imm) r = ⊥

-- The instruction reads the register as a number.
abbrev pub ReadsRegister : Insn → ℕ → Type 0
ReadsRegister (Alu Move size dst src) r = Names src r
ReadsRegister (Alu op size dst src) r = (r ≡ dst) ⊎ Names src r
ReadsRegister (Unary op dst) r = r ≡ unary_source op dst
ReadsRegister (JumpIf condition size dst src offset) r = (r ≡ dst) ⊎ Names src r
ReadsRegister Exit r = r ≡ 0
ReadsRegister (Store width dst offset src) r = Names src r
ReadsRegister _ r = ⊥

-- The instruction writes the register, where it has no call and no map: what `ldmap` or a call
-- leaves there isn't counted.
abbrev pub WritesRegister : Insn → ℕ → Type 0
WritesRegister (Alu op size dst src) r = r ≡ dst
WritesRegister (Unary op dst) r = r ≡ dst
WritesRegister (LoadNumber dst n) r = r ≡ dst
WritesRegister (Load width dst src offset) r = r ≡ dst
WritesRegister (LoadSigned width dst src offset) r = r ≡ dst
WritesRegister _ r = ⊥

-- An access with base r10 takes byte k of the frame: an aligned access, all of its bytes inside.
abbrev pub TakesByte : Width → ℤ → ℕ → Type 0
TakesByte width offset k =
    (at : ℕ) × (region_offset FRAME_BYTES (byte_count width) (pos FRAME_BYTES +ℤ offset) ≡ Some at)
    × (at ≤ k) × (k < at + byte_count width)

abbrev pub ReadsByte : Insn → ℕ → Type 0
ReadsByte (Load width dst src offset) k = TakesByte width offset k
ReadsByte (LoadSigned width dst src offset) k = TakesByte (unsigned_width width) offset k
ReadsByte _ k = ⊥

abbrev pub WritesByte : Insn → ℕ → Type 0
WritesByte (Store width dst offset src) k = TakesByte width offset k
WritesByte _ k = ⊥

-- an aligned access to the frame with base r10, all bytes inside
abbrev pub IsFrameAccess : Width → ℕ → ℤ → Type 0
IsFrameAccess width base offset = (base ≡ 10) × (at : ℕ)
    × (region_offset FRAME_BYTES (byte_count width) (pos FRAME_BYTES +ℤ offset) ≡ Some at)

-- The instruction has no call and no map, and its only memory accesses are those to the frame.
abbrev pub IsSimple : Insn → Type 0
IsSimple (Load width dst src offset) = IsFrameAccess width src offset
IsSimple (LoadSigned width dst src offset) = IsFrameAccess (unsigned_width width) src offset
IsSimple (Store width dst offset src) = IsFrameAccess width dst offset
IsSimple (LoadMap dst map) = ⊥
IsSimple (Call kind imm) = ⊥
IsSimple _ = Unit {0}

-- A path leads to the slot on which no instruction makes such a write.
pub data WithoutWrite (program : List Insn) (Writes : Insn → Type 0) : ℕ → Type 0 where
  without_entry : WithoutWrite program Writes 0
  without_next : (place target : ℕ) (i : Insn) → WithoutWrite program Writes place →
      insn_at program place ≡ Some i → (Writes i → ⊥) → GoesTo i place target →
      WithoutWrite program Writes target

-- A path leads to the slot on which the byte of the frame isn't written.
abbrev pub WithoutByte : List Insn → ℕ → ℕ → Type 0
WithoutByte program k place = WithoutWrite program (λ i. WritesByte i k) place
