use Rattle.bpf_model.proofs.Prelude.{◌≡◌, ◌≤◌, take, slot_total}
use Rattle.bpf_model.specs.declared.limits.TheConstants.{MAX_SLOTS}
use Rattle.asm.proofs.assembling.has_room.Given as goal

abbrev pub invariant-loop-instruction : goal.invariant-loop-instruction
invariant-loop-instruction l = (l.slots ≡ slot_total (take l.instruction-index l.instructions)) × (l.slots ≤ MAX_SLOTS)
