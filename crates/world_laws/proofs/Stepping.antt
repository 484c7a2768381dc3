-- The step of a run on words is its step in the machine: for each instruction, and for the run in a run slot.
use Rattle.bpf_model.proofs.Prelude.{◌≡◌, ℕ, List, Option, Some, None, refl, sym, ap, subst, ◌∙◌, inl, inr, slice_get, none-some, helper_of}
use Rattle.bpf_model.proofs.Prelude.{kernel_function_of, Element, if_ended, Loaded, Run, environment, open_sections, OutcomeStep, InsnStep, Schedule, Outcome}
use Rattle.bpf_model.proofs.Prelude.{after, insn_at, RunView, WorldView, flattened, run-behind, option_flatten}
use Rattle.model_laws.proofs.Prelude.{Answer, Event, EventRefusal, Insn, Call, Load, LoadSigned, Store, StepsByKind, AccessesElement, Acts, Matches}
use Rattle.model_laws.proofs.Prelude.{Simulates, step_refused, step_by, reaction}
use Rattle.world_laws.proofs.Prelude.{insn_step, step_at, step_in, run_step_of, word_step, or_step, full_reaction, IsSound, IsRunning, local_of}
use Rattle.bpf_model.specs.declared.event.Event.TheVariants as events
use Rattle.bpf_model.specs.declared.insn.CallKind.TheVariants as kinds
use Rattle.bpf_model.specs.MapState as map_state
use Rattle.plan_laws.proofs.Reaching.{well_never_stuck}
use Rattle.model_laws.proofs.Reacting.{reaction_simulates}
use Rattle.world_laws.proofs.Ready.{refines}
use Rattle.world_laws.proofs.Own.{among, carried, alone-step}
use Rattle.world_laws.proofs.OwnMemory.{acts-alone}
use Rattle.world_laws.proofs.Local.{local_agrees}
use Rattle.world_laws.proofs.Loading.{element-load-simulates, element-load-signed-simulates}
use Rattle.world_laws.proofs.Storing.{element-store-simulates}
use Rattle.world_laws.proofs.Calling.{kernel-simulates, helper-simulates}
use Rattle.model_laws.proofs.Requests.{by_kind}

module _ (w : WorldView) (s : Schedule) (m : Matches w s) (sound : IsSound w s) (r : ℕ) (run : Run) (v : RunView) (k : IsRunning w s r run v) where
  pub own_step_simulates : (i : Insn) (out : Outcome) (answer : Answer) (later : Run) →
      insn_at run.program.code run.state.place ≡ Some i → after i (environment run) run.state ≡ Some out →
      OutcomeStep out run answer later → Simulates s (events.Step r) (insn_step i run.program r v w)
  own_step_simulates i out answer later here e ends = carried w s m sound r run v k i out (local_of i v) (insn_step i run.program r v w) answer later here
      (alone-step w s m sound r run v k i out e) ends (acts-alone (among w s m sound r run v k) i out here e) (local_agrees i run.program r v w)

  pub access_simulates : (i : Insn) (out : Outcome) (es : List Element) (answer : Answer) (later : Run) →
      insn_at run.program.code run.state.place ≡ Some i → AccessesElement i s.machine.store.elements run.state out es
      → OutcomeStep out run answer later → Simulates s (events.Step r) (insn_step i run.program r v w)
  access_simulates (Load width dst src offset) out es answer later here h ends =
      element-load-simulates w s m sound r run v k width dst src offset out answer later here (h.0, h.1, h.2, refl) ends
  access_simulates (LoadSigned width dst src offset) out es answer later here h ends =
      element-load-signed-simulates w s m sound r run v k width dst src offset out answer later here (h.0, h.1, h.2, refl) ends
  access_simulates (Store width dst offset src) out es answer later here h ends = element-store-simulates w s m sound r run v k width dst offset src here es h.0
  access_simulates i out es answer later here h ends = absurd h

  acts-simulates : (i : Insn) (out : Outcome) (es : List Element) (answer : Answer) (later : Run) →
      insn_at run.program.code run.state.place ≡ Some i →
      Acts i (environment run) s.machine.store.elements run.state out es → OutcomeStep out run answer later →
      Simulates s (events.Step r) (insn_step i run.program r v w)
  acts-simulates i out es answer later here (inl h) ends = own_step_simulates i out answer later here h.0 ends
  acts-simulates i out es answer later here (inr h) ends = access_simulates i out es answer later here h ends

  kind-simulates : (i : Insn) (answer : Answer) (new_store : map_state.Store) (later : Run) →
      insn_at run.program.code run.state.place ≡ Some i →
      StepsByKind i s.machine.store (open_sections s.machine.runs) run answer new_store later →
      Simulates s (events.Step r) (insn_step i run.program r v w)
  kind-simulates (Call kinds.Kernel imm) answer new_store later here h = kernel-simulates w s m sound r run v k imm later (kernel_function_of imm) here refl h.0
  kind-simulates (Call kinds.Helper imm) answer new_store later here h = helper-simulates w s m sound r run v k imm h.0 new_store (helper_of imm) here refl h.1
  kind-simulates i answer new_store later here h = acts-simulates i h.0 h.1 answer later here h.2 h.4

  pub insn_simulates : (i : Insn) (answer : Answer) (new_store : map_state.Store) (later : Run) →
      insn_at run.program.code run.state.place ≡ Some i →
      InsnStep i s.machine.store (open_sections s.machine.runs) run answer new_store later →
      Simulates s (events.Step r) (insn_step i run.program r v w)
  insn_simulates i answer new_store later here h = kind-simulates i answer new_store later here
      (by_kind i s.machine.store (open_sections s.machine.runs) run answer new_store later h)

  -- the run's step, whichever it is
  pub step_simulates : Simulates s (events.Step r) (word_step w r)
  step_simulates =
      let n = well_never_stuck s.machine sound.well r run k.there k.going in
      let h = refines w s m sound r run v k in
      let loaded : slice_get w.programs v.program ≡ Some run.program = ap (λ (ps : List Loaded). slice_get ps v.program) m.refines.programs ∙ h.program in
      let at : insn_at run.program.code v.place ≡ Some n.3.0 = ap (insn_at run.program.code) h.words.place ∙ n.3.1 in
      subst (λ o. Simulates s (events.Step r) (run_step_of (option_flatten o) r w)) (sym k.shown)
      (subst (λ o. Simulates s (events.Step r) (step_in o r v w)) (sym loaded)
      (subst (λ o. Simulates s (events.Step r) (step_at o run.program r v w)) (sym at) (insn_simulates n.3.0 n.0 n.1 n.2 n.3.1 n.3.2)))

pub not-ended : (o : Option ℕ) → if_ended o ≡ None → o ≡ None
not-ended None e = refl
not-ended (Some n) e = absurd (none-some _ (sym e))

-- the view of a run that isn't refused
going-shown : (o : Option RunView) → step_refused o ≡ None → (v : RunView) × (o ≡ Some v) × (v.exit ≡ None)
going-shown None e = absurd (none-some _ (sym e))
going-shown (Some v) e = (v, refl, not-ended v.exit e)

not-refused : (o : Option EventRefusal) (w : WorldView) → step_by o w ≡ None → o ≡ None
not-refused None w e = refl
not-refused (Some refusal) w e = absurd (none-some _ (sym e))

module _ (w : WorldView) (s : Schedule) (m : Matches w s) (sound : IsSound w s) where
  running-step : (r : ℕ) → step_refused (option_flatten (slice_get w.runs r)) ≡ None → Simulates s (events.Step r) (word_step w r)
  running-step r e =
      let x = going-shown (option_flatten (slice_get w.runs r)) e in
      let at = flattened (slice_get w.runs r) x.0 x.1 in
      let y = run-behind m.refines.slots s.machine.store.elements s.machine.programs x.0 (slice_get w.runs r)
      (slice_get s.machine.runs r) at (m.refines.runs r) in
      step_simulates w s m sound r y.0 x.0 (record { there = ap option_flatten y.1; shown = at; going = sym y.2.words.exit ∙ x.2 })

  left : (event : Event) → reaction w event ≡ None → Simulates s event (or_step None w event)
  left (events.Step r) e = running-step r (not-refused (step_refused (option_flatten (slice_get w.runs r))) w e)
  left event e = absurd (none-some _ (sym e))

  either : (event : Event) (o : Option (Answer × WorldView)) → reaction w event ≡ o → Simulates s event (or_step o w event)
  either event (Some x) e = reaction_simulates w s m event x e
  either event None e = left event e

  pub full_simulates : (event : Event) → Simulates s event (full_reaction w event)
  full_simulates event = either event (reaction w event) refl
