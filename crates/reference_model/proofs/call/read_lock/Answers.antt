use Rattle.bpf_model.proofs.Prelude.{◌+◌, ℕ, ap, ◌∙◌, arith, Run, moves, returns}
use Rattle.model_laws.proofs.Prelude.{Nothing}
use Rattle.reference_interpreter.specs.Plain.{plain_state_of}
use Rattle.reference_store.proofs.Telling.{tells-map}
use Rattle.reference_model.proofs.call.read_lock.Goals as goal

pub returns-clause-step : goal.returns-clause-step
returns-clause-step c = λ program.
    let old = c.args.run.now in
    let at : ℕ → Run = λ l. moves (record {
      name = old.name;
      program = program;
      context = old.context.items;
      state =
          plain_state_of old.state;
      depth = old.depth + 1;
      sections = l;
      moved = old.moved;
      exit = old.exit;
    })
    (returns Nothing (plain_state_of old.state)) in
    let sections = c.in_ok-run.ensures in
    tells-map _ _ _ _ c.returns.result (λ a h. ((omega arith, h.1 ∙ ap at sections), h.0)) (λ e. absurd e) (c.returns.ensures.moves program)
