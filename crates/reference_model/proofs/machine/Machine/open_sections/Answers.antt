use Rattle.bpf_model.proofs.Prelude.{◌≡◌, subst, IfOk, open_sections}
use Rattle.reference_store.specs.State.{sections_of}
use Rattle.reference_model.specs.RunState.{runs_of}
use Rattle.reference_model.proofs.machine.Machine.open_sections.Goals as goal

pub returns : goal.returns
returns c =
    let programs = c.args.self.now.programs.items in
    subst (λ rs. IfOk c.open_sections.result (λ sections.
    sections_of sections.items ≡ open_sections (runs_of programs rs))) c.as_slice.ensures.value
    (c.open_sections.ensures programs)
