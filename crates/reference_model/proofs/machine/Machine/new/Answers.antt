use Rattle.bpf_model.proofs.Prelude.{List, Option, None, Bool, ap, ◌∙◌, map, replicate, Queues, Schedule, no_queues, Store, new_map, all_new_elements, Run}
use Rattle.model_laws.proofs.Prelude.{MAX_RUNS}
use Rattle.reference_model.specs.RunState.{runs_of, loaded_of}
use Rattle.reference_store.specs.State.{queues_of}
use Rattle.reference_model.proofs.Starts.{same-for-each, no-runs}
use Rattle.reference_model.proofs.machine.Machine.new.Goals as goal

pub returns-clause-start : goal.returns-clause-start
returns-clause-start c =
    let shapes = c.args.shapes.now in
    let programs = c.args.programs.items in
    let made : Store → List (Option Run) → List Queues → List Bool → Schedule = λ s rs qs flags.
    record {
      machine = record { store = s; runs = rs; started = 0; programs = map loaded_of programs };
      queues =
          qs;
      awaited = flags;
    } in
    let store : Store = record { elements = all_new_elements 0 shapes; maps = map new_map shapes } in
    let queues = c.in_ok-new_queues.ensures.queues ∙ same-for-each shapes in
    let runs = ap (runs_of programs) c.in_ok-no_runs.ensures.runs ∙ no-runs programs MAX_RUNS in
    ap (λ s. made s (runs_of programs c.in_ok-no_runs.field-0.items) (map queues_of c.in_ok-new_queues.field-0.items)
    c.in_ok-none_awaited.field-0.items) c.in_ok-new.ensures.store
    ∙ ap (λ rs. made store rs (map queues_of c.in_ok-new_queues.field-0.items) c.in_ok-none_awaited.field-0.items) runs
    ∙ ap (λ qs. made store (replicate MAX_RUNS None) qs c.in_ok-none_awaited.field-0.items) queues
    ∙ ap (made store (replicate MAX_RUNS None) (map (λ _. no_queues) shapes)) c.in_ok-none_awaited.ensures.awaited
