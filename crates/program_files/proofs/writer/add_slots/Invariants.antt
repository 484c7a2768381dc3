use Rattle.bpf_model.proofs.Prelude.{length, slots_of}
use Rattle.std.proofs.Common.{flat_map}
use Rattle.program_files.proofs.SlotLines.{IsWrittenTo}
use Rattle.program_files.proofs.writer.add_slots.Given as goal

abbrev pub invariant-loop-rest : goal.invariant-loop-rest
invariant-loop-rest l = IsWrittenTo l.initial.file.items l.file.items l.rest (flat_map slots_of l.program)

abbrev pub decreases-loop-rest : goal.decreases-loop-rest
decreases-loop-rest l = length l.rest
