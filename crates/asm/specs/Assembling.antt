-- Words of the assembler's own contracts: what one line adds, and how a text is refused.
use Rattle.std.specs.Prelude.{ℕ, ◌≡◌, ◌+◌, ◌<◌, true, false, List, [], ◌∷◌, ◌++◌}
use Rattle.bpf_model.specs.declared.insn.Insn.{Insn}
use Rattle.bpf_model.specs.declared.limits.TheConstants.{MAX_SLOTS}
use Rattle.bpf_model.specs.Spelling.{FitsInsn}
use Rattle.bpf_model.specs.Places.{slot_total}
use Rattle.disasm.specs.Text.{line_of}
use Rattle.asm.specs.Faults.{is_comment, IsLineFlaw, IsFirstLineFlaw}
use Rattle.asm.specs.declared.fault.LineFlaw.TheVariants as flaw
use Rattle.asm.specs.declared.fault.AsmFault.{AsmFault}
use Rattle.asm.specs.declared.fault.AsmFault.TheVariants as faults

-- the line is the text of this instruction and no other
pub record IsLineOf (line : List ℕ) (i : Insn) : Type 0 where
  pub fits : FitsInsn i
  pub text : line ≡ line_of i
  pub only : (j : Insn) → FitsInsn j → line ≡ line_of j → i ≡ j

-- new is old with the line's instruction at its end, where the line is no comment
pub record AddsLine (line : List ℕ) (old new : List Insn) : Type 0 where
  pub comment : is_comment line ≡ true → new ≡ old
  pub statement : is_comment line ≡ false → (i : Insn) × IsLineOf line i × (new ≡ old ++ i ∷ [])

-- what the line of this index is told for; lines are numbered from 1
abbrev pub IsLineFault : ℕ → List ℕ → AsmFault → Type 0
IsLineFault index line (faults.BadLine n) =
    (n ≡ index + 1) × (is_comment line ≡ false) × IsLineFlaw line flaw.NoForm
IsLineFault index line (faults.BadOperand n) =
    (n ≡ index + 1) × (is_comment line ≡ false) × IsLineFlaw line flaw.OutOfRange
IsLineFault index line faults.TooLong = ⊥
IsLineFault index line faults.Empty = ⊥
IsLineFault index line faults.Memory = Unit {0}

-- the faults that the lines alone tell
abbrev pub IsAsmTextFault : List ℕ → AsmFault → Type 0
IsAsmTextFault text (faults.BadLine n) = IsFirstLineFlaw text flaw.NoForm n
IsAsmTextFault text (faults.BadOperand n) = IsFirstLineFlaw text flaw.OutOfRange n
IsAsmTextFault text faults.TooLong = ⊥
IsAsmTextFault text faults.Empty = ⊥
IsAsmTextFault text faults.Memory = Unit {0}

-- the faults that the number of slots tells
abbrev pub IsSizeFault : List Insn → AsmFault → Type 0
IsSizeFault is (faults.BadLine n) = ⊥
IsSizeFault is (faults.BadOperand n) = ⊥
IsSizeFault is faults.TooLong = MAX_SLOTS < slot_total is
IsSizeFault is faults.Empty = is ≡ []
IsSizeFault is faults.Memory = Unit {0}
