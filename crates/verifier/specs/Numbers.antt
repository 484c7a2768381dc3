-- The numbers by which refusals are known, and their slots.
use Rattle.std.specs.Prelude.{ℕ, Option, Some, None}
use Rattle.verifier.specs.FlawNumbers.{graph_flaw_number}
use Rattle.register_kinds.specs.FaultNumbers.{insn_fault_number}
use Rattle.verifier.specs.declared.refusal.ProgramRefusal.{ProgramRefusal}
use Rattle.verifier.specs.declared.refusal.ProgramRefusal.TheVariants.{Graph, Instruction, Memory}

abbrev pub refusal_number : ProgramRefusal → ℕ
refusal_number (Graph flaw slot) = graph_flaw_number flaw
refusal_number (Instruction fault slot) = insn_fault_number fault
refusal_number Memory = 13

abbrev pub refusal_slot : ProgramRefusal → Option ℕ
refusal_slot (Graph flaw slot) = Some slot
refusal_slot (Instruction fault slot) = Some slot
refusal_slot Memory = None
