-- Why a program isn't translated.
use Rattle.std.specs.Prelude.{◌≡◌, ℕ, ◌+◌, ◌<◌, List, slice_get, Option, Some, None}
use Rattle.std.specs.List.{sum_by}
use Rattle.bpf_model.specs.declared.limits.TheConstants.{MAX_SLOTS}
use Rattle.classic_program.specs.declared.data.Data.{Data}
use Rattle.classic_program.specs.declared.insn.ClassicInsn.{ClassicInsn}
use Rattle.classic_program.specs.WellFormed.{Checked}
use Rattle.classic.specs.declared.fault.TranslateFault.{TranslateFault}
use Rattle.classic.specs.declared.fault.TranslateFault.TheVariants as translate
use Rattle.classic.specs.Layout.{block_slots, prologue_slots, IsInWindow}

-- the most slots that a translation may take: each instruction has a block, and each block is its longest
abbrev pub most_slots : Data → List ClassicInsn → ℕ
most_slots d program = prologue_slots + sum_by (block_slots d) program + 2

abbrev pub IsTranslateFault : Checked → TranslateFault → Type 0
IsTranslateFault p (translate.OutsideWindow k) =
    (i : ClassicInsn) × (slice_get p.instructions k ≡ Some i) × (IsInWindow i → ⊥)
IsTranslateFault p translate.TooManySlots = MAX_SLOTS < most_slots p.kind p.instructions
IsTranslateFault p translate.Memory = Unit {0}

abbrev pub translate_fault_number : TranslateFault → ℕ
translate_fault_number (translate.OutsideWindow k) = 112
translate_fault_number translate.TooManySlots = 113
translate_fault_number translate.Memory = 13

abbrev pub translate_fault_instruction : TranslateFault → Option ℕ
translate_fault_instruction (translate.OutsideWindow k) = Some k
translate_fault_instruction fault = None
