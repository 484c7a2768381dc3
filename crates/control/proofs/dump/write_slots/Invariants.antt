use Rattle.bpf_model.proofs.Prelude.{drop}
use Rattle.control.proofs.Elements.{AreBegun}
use Rattle.control.proofs.dump.write_slots.Given as goal

abbrev pub invariant-loop-slot : goal.invariant-loop-slot
invariant-loop-slot l = AreBegun l.map (drop l.slot-index l.slots) l.fn.out.items l.out.items
