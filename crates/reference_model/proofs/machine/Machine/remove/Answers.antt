use Rattle.bpf_model.proofs.Prelude.{◌≡◌, None, sym, ap, ◌∙◌, subst, slice_set, with_runs, DoesEvent, refusal, map-set}
use Rattle.model_laws.proofs.Prelude.{Done}
use Rattle.std.specs.Option.{option_map}
use Rattle.bpf_model.specs.declared.event.Event.TheVariants as events
use Rattle.reference_model.specs.State.{machine_of}
use Rattle.reference_model.specs.RunState.{run_of, runs_of}
use Rattle.reference_model.proofs.Events.{does-performs}
use Rattle.reference_model.proofs.machine.Machine.remove.Goals as goal

pub returns-clause-machine : goal.returns-clause-machine
returns-clause-machine c =
    let m = machine_of c.args.self.now in
    let programs = c.args.self.now.programs.items in
    let r = c.index-r.result in
    let free : refusal m (events.Drop r) ≡ None = sym c.drop_refusal.ensures ∙ c.in_default.is in
    let runs = map-set (option_map (run_of programs)) c.args.self.now.runs.items r None in
    let new = with_runs m (runs_of programs (slice_set c.args.self.now.runs.items r None)) in
    subst (λ k. DoesEvent m (events.Drop k) Done new) c.index-r.ensures (does-performs m (events.Drop r) Done new free (ap (with_runs m) runs))
