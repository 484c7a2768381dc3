use Rattle.bpf_model.proofs.Prelude.{◌∙◌}
use Rattle.shared.proofs.OnlyProgram.{only_shapes}
use Rattle.shared.proofs.lock.Shared.of_program.Goals as goal

pub returns-clause-shapes : goal.returns-clause-shapes
returns-clause-shapes g c =
    only_shapes c.in_ok-shared.shared c.args.program.verified.shapes (c.in_ok-shared.ensures.programs.shapes ∙ c.in_ok-world.ensures.bound)
