-- The slots with which an instruction begins.
use Rattle.std.specs.Prelude.{◌≡◌, ◌∷◌, take, Option, option_to_list}
use Rattle.bpf_model.specs.declared.slot.Slot.{Slot}
use Rattle.bpf_model.specs.declared.insn.Insn.{Insn}
use Rattle.bpf_model.specs.Spelling.{slots_of}
use Rattle.bpf_model.specs.Step.{slot_count}

-- the instruction's slots are this one and, where it has two, the next
abbrev pub BeginsWith : Slot → Option Slot → Insn → Type 0
BeginsWith s next i = slots_of i ≡ take (slot_count i) (s ∷ option_to_list next)
