use Rattle.bpf_model.proofs.Prelude.{ap, ◌∙◌, lowest_free}
use Rattle.reference_model.specs.RunState.{runs_of}
use Rattle.reference_model.proofs.machine.Machine.lowest_free.Goals as goal

pub returns : goal.returns
returns c =
    let programs = c.args.self.now.programs.items in
    c.lowest_free.ensures programs ∙ ap (λ rs. lowest_free (runs_of programs rs)) c.as_slice.ensures.value
