use Rattle.bpf_model.proofs.Prelude.{rules, ◌≡◌, sym, ap, ◌∙◌, subst, length, environment_of}
use Rattle.model_laws.proofs.Prelude.{Acts}
use Rattle.bpf_model.specs.Machine as machine
use Rattle.reference_interpreter.specs.Plain.{plain_state_of}
use Rattle.reference_store.specs.State.{elements_of}
use Rattle.reference_model.specs.RunState.{run_with, loaded_of}
use Rattle.reference_model.specs.Acting.{ActsAs}
use Rattle.reference_model.proofs.step.step_alone.Goals as goal

pub returns-in-Stuck-clause-steps : goal.returns-in-Stuck-clause-steps
returns-in-Stuck-clause-steps c = λ a t q s.
    let es = elements_of c.args.store.now.elements.items in
    let stuck = subst (λ p. ActsAs c.args.insn.now (environment_of c.as_slice.result.now c.len.result) es
    c.args.run.now.state p (elements_of c.act.new.store.elements.items) c.act.new.run) c.in-Stuck.is
    c.act.ensures.acts in
    let maps : c.len.result ≡ length c.args.program.now.maps.items = search rules in
    let env : environment_of c.as_slice.result.now c.len.result ≡ machine.environment
    (run_with (loaded_of c.args.program.now) c.args.run.now) =
    ap (λ x. environment_of x c.len.result) c.as_slice.ensures.value ∙
    ap (environment_of c.args.run.now.context.items) maps in
    stuck s.0 s.1 (subst (λ e. Acts c.args.insn.now e es (plain_state_of c.args.run.now.state) s.0 s.1) (sym env) s.2)
