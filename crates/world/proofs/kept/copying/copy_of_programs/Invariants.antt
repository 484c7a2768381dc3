use Rattle.bpf_model.proofs.Prelude.{◌≡◌, take}
use Rattle.world.proofs.kept.copying.copy_of_programs.Given as goal

abbrev pub invariant-loop-loaded : goal.invariant-loop-loaded
invariant-loop-loaded l = l.copy.items ≡ take l.loaded-index l.programs
