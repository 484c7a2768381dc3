use Rattle.bpf_model.proofs.Prelude.{◌≡◌, take, map}
use Rattle.program_files.proofs.verified_file.shapes_of.Given as goal

abbrev pub invariant-loop-number : goal.invariant-loop-number
invariant-loop-number l = l.shapes.items ≡ map (λ m. m.shape) (take l.number l.registry.maps)
