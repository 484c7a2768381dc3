use Rattle.bpf_model.proofs.Prelude.{take, shapes_of}
use Rattle.shared.specs.Kept.{AreKept}
use Rattle.shared.proofs.lock.programs_of.Given as goal

abbrev pub invariant-loop-number : goal.invariant-loop-number
invariant-loop-number l = AreKept (shapes_of l.world) l.programs.items (take l.number l.world.programs)
