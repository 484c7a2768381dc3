-- An event is refused exactly when a test fails.
use Rattle.bpf_model.proofs.Prelude.{◌≡◌, List, Option, Some, None, refl, sym, ap, subst, ◌↔◌, Outcome, Moves, Exits, Section, Store, Run, Machine}
use Rattle.bpf_model.proofs.Prelude.{open_sections, OutcomeStep, PerformsEvent, Answers, DoesEvent, refusal}
use Rattle.model_laws.proofs.Prelude.{Insn, Call, Event, Refused, Moved, Exited, EventRefusal, StepsByKind}
use Rattle.bpf_model.specs.declared.insn.CallKind.TheVariants as kinds
use Rattle.bpf_model.specs.declared.event.Event.TheVariants as events
use Rattle.model_laws.proofs.Requests.{run_by_kind}

ends-answer : (out : Outcome) (run : Run) (k : EventRefusal) (new : Run) → OutcomeStep out run (Refused k) new → ⊥
ends-answer (Moves next) run k new h = let e : Refused k ≡ Moved = h.0 in cc
ends-answer (Exits n) run k new h = let e : Refused k ≡ Exited n = h.1 in cc

insn-answer : (i : Insn) (s : Store) (opened : List Section) (run : Run) (k : EventRefusal) (new : Store)
    (new_run : Run) → StepsByKind i s opened run (Refused k) new new_run → ⊥
insn-answer (Call kinds.Kernel imm) s opened run k new new_run h = let e : Refused k ≡ Moved = h.1 in cc
insn-answer (Call kinds.Helper imm) s opened run k new new_run h = let e : Refused k ≡ Moved = h.2 in cc
insn-answer i s opened run k new new_run h = ends-answer h.0 run k new_run h.4

performs-answer : (m : Machine) (event : Event) (k : EventRefusal) (new : Machine) → PerformsEvent m event (Refused k) new → ⊥
performs-answer m (events.Step run) k new h = insn-answer h.step.0 m.store (open_sections m.runs) h.run k h.new_store
    h.new_run (run_by_kind m run (Refused k) new h)
performs-answer m event k new h = h

told : (o : Option EventRefusal) (m new : Machine) (event : Event) (k : EventRefusal) → Answers o m event (Refused k) new → (o ≡ Some k) × (new ≡ m)
told None m new event k h = absurd (performs-answer m event k new h)
told (Some j) m new event k h = (let e : Refused k ≡ Refused j = h.0 in let same : j ≡ k = cc in ap Some same, h.1)

refuses : (o : Option EventRefusal) (m new : Machine) (event : Event) (k : EventRefusal) → o ≡ Some k → new ≡ m → Answers o m event (Refused k) new
refuses o m new event k h same = subst (λ x. Answers x m event (Refused k) new) (sym h) (refl, same)

pub refused_exactly : (m new : Machine) (event : Event) (k : EventRefusal) → DoesEvent m event (Refused k) new ↔ ((refusal m event ≡ Some k) × (new ≡ m))
refused_exactly m new event k = (told (refusal m event) m new event k, λ h. refuses (refusal m event) m new event k h.0 h.1)
