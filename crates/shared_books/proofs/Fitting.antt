-- The kinds of answers that an event can have.
use Rattle.bpf_model.proofs.Prelude.{ℕ, List, Option, Some, None, sym, subst, Outcome, Moves, Exits, Section, Store, Run, Machine, open_sections, OutcomeStep}
use Rattle.bpf_model.proofs.Prelude.{PerformsEvent, Answers, DoesEvent, refusal, IsReal, WorldView}
use Rattle.model_laws.proofs.Prelude.{Insn, Call, Event, Answer, Started, Ret, Found, Done, Reaped, Refused, EventRefusal, StepsByKind}
use Rattle.world_laws.proofs.Prelude.{full_reaction, IsWorld}
use Rattle.bpf_model.specs.declared.insn.CallKind.TheVariants as kinds
use Rattle.bpf_model.specs.declared.event.Event.TheVariants as events
use Rattle.world_laws.proofs.Worlds.{simulates}
use Rattle.journal.specs.Entries.{IsAnswerTo}
use Rattle.model_laws.proofs.Requests.{run_by_kind}

outcome-fits : (out : Outcome) (r : ℕ) (run : Run) (answer : Answer) (new : Run) → OutcomeStep out run answer new → IsAnswerTo (events.Step r) answer
outcome-fits (Moves next) r run answer new h = subst (IsAnswerTo (events.Step r)) (sym h.0) tt
outcome-fits (Exits n) r run answer new h = subst (IsAnswerTo (events.Step r)) (sym h.1) tt

insn-fits : (i : Insn) (r : ℕ) (s : Store) (opened : List Section) (run : Run) (answer : Answer) (new : Store)
    (new_run : Run) → StepsByKind i s opened run answer new new_run → IsAnswerTo (events.Step r) answer
insn-fits (Call kinds.Kernel imm) r s opened run answer new new_run h = subst (IsAnswerTo (events.Step r)) (sym h.1) tt
insn-fits (Call kinds.Helper imm) r s opened run answer new new_run h = subst (IsAnswerTo (events.Step r)) (sym h.2) tt
insn-fits i r s opened run answer new new_run h = outcome-fits h.0 r run answer new_run h.4

performs-fits : (m : Machine) (event : Event) (answer : Answer) (new : Machine) → PerformsEvent m event answer new → IsAnswerTo event answer
performs-fits m (events.Start prog ctx) (Started r) new h = tt
performs-fits m (events.Step run) answer new h = insn-fits h.step.0 run m.store (open_sections m.runs) h.run answer
    h.new_store h.new_run (run_by_kind m run answer new h)
performs-fits m (events.Update map key value flags) (Ret ret) new h = tt
performs-fits m (events.Delete map key) (Ret ret) new h = tt
performs-fits m (events.Read map key) (Found (Some value)) new h = tt
performs-fits m (events.Read map key) (Found None) new h = tt
performs-fits m events.Advance Done new h = tt
performs-fits m events.Reap (Reaped None) new h = tt
performs-fits m events.Reap (Reaped (Some element)) new h = tt
performs-fits m (events.Drop run) Done new h = tt
performs-fits m event answer new h = absurd h

answers-fit : (o : Option EventRefusal) (m : Machine) (event : Event) (answer : Answer) (new : Machine) →
    ((k : EventRefusal) → IsAnswerTo event (Refused k)) → Answers o m event answer new → IsAnswerTo event answer
answers-fit (Some k) m event answer new refused h = subst (IsAnswerTo event) (sym h.0) (refused k)
answers-fit None m event answer new refused h = performs-fits m event answer new h

pub does-fit : (m : Machine) (event : Event) (answer : Answer) (new : Machine) → DoesEvent m event answer new → IsAnswerTo event answer
does-fit m (events.Start prog ctx) answer new h = answers-fit (refusal m (events.Start prog ctx)) m (events.Start prog ctx) answer new (λ k. tt) h
does-fit m (events.Step run) answer new h = answers-fit (refusal m (events.Step run)) m (events.Step run) answer new (λ k. tt) h
does-fit m (events.Update map key value flags) answer new h =
    answers-fit (refusal m (events.Update map key value flags)) m (events.Update map key value flags) answer new
    (λ k. tt) h
does-fit m (events.Delete map key) answer new h = answers-fit (refusal m (events.Delete map key)) m (events.Delete map key) answer new (λ k. tt) h
does-fit m (events.Read map key) answer new h = answers-fit (refusal m (events.Read map key)) m (events.Read map key) answer new (λ k. tt) h
does-fit m events.Advance answer new h = performs-fits m events.Advance answer new h
does-fit m events.Reap answer new h = performs-fits m events.Reap answer new h
does-fit m (events.Drop run) answer new h = answers-fit (refusal m (events.Drop run)) m (events.Drop run) answer new (λ k. tt) h

pub reaction_fits : (w : WorldView) (event : Event) → IsWorld w → IsReal event → IsAnswerTo event (full_reaction w event).0
reaction_fits w event is real =
    let next = simulates w is.schedule event is.tracks is.ready real in
    does-fit is.schedule.machine event (full_reaction w event).0 next.0.machine next.1.step
