use Rattle.bpf_model.proofs.Prelude.{subst, ExitsWith}
use Rattle.verifier.proofs.Prelude.{Checked}
use Rattle.shared_runs.specs.Lone.{loaded_alone}
use Rattle.host_programs.proofs.Returning.{returns_on}
use Rattle.host_programs.proofs.program.HostProgram.value_in.Goals as goal

pub returns-clause-returns : goal.returns-clause-returns
returns-clause-returns c =
    let p = c.args.self.now in
    let context = c.args.context.now in
    returns_on p.checked p.classic context c.run_in.result.steps c.run_in.result.value c.is_open.ensures.translation
    c.requires.context c.are_bytes.ensures
    (subst (λ (v : Checked). ExitsWith (loaded_alone v) context c.run_in.result.steps c.run_in.result.value)
    c.verified.ensures c.run_in.ensures.exits)
