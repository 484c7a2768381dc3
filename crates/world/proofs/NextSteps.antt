-- What the next step of a run is answered, by the instruction before which the run stands.
use Rattle.bpf_model.proofs.Prelude.{◌≡◌, ◌∙◌, ℕ, ◌<◌, ◌^◌, List, Option, Some, None, refl, sym, ap, subst, slice_get, ℤ, byte_count, helper_of}
use Rattle.bpf_model.proofs.Prelude.{kernel_function_of, Answers, DoesEvent, refusal, Loaded, Machine, Run, open_sections, OutcomeStep, Section, Outcome}
use Rattle.bpf_model.proofs.Prelude.{Moves, Exits, MapView, RunView, WorldView, if_ended, run_at, option_map, option_flatten, slice_get-map}
use Rattle.element_store.proofs.Prelude.{GraceState}
use Rattle.machine.proofs.Prelude.{RunWords}
use Rattle.model_laws.proofs.Prelude.{Helper, KernelFunction, ReadLock, ReadUnlock, Insn, Call, Exit, Store, Answer, EventRefusal, StepsByKind, Location}
use Rattle.model_laws.proofs.Prelude.{InContext, InFrame, AtMap, InSlot, step_by, step_refused}
use Rattle.world.proofs.Prelude.{HasNoRun, IsKept, view_of, world_of, IsFlagged, WouldBeRefused, WouldMove}
use Rattle.world_laws.proofs.Prelude.{bound_number, serves, helper_called_on, helper_called, kernel_called, IsWorld, location_of, operand_word, stored_at}
use Rattle.world_laws.proofs.Prelude.{word_in, full_reaction, insn_step, or_step}
use Rattle.bpf_model.specs.declared.insn.CallKind.TheVariants as kinds
use Rattle.bpf_model.specs.declared.event.Event.TheVariants as events
use Rattle.bpf_model.specs.declared.event.Answer.TheVariants as answers
use Rattle.bpf_model.specs.MapState.{Store as MapStore}
use Rattle.model_laws.proofs.Requests.{run_by_kind}
use Rattle.world_laws.proofs.Worlds.{simulates}
use Rattle.world_laws.proofs.KeepingWorlds.{world_is_matched}
use Rattle.bpf_model.specs.declared.event.EventRefusal.TheVariants.{Ended, NoRun}
use Rattle.world.specs.declared.kept.loaded.Loaded as parts
use Rattle.world.specs.Stretches.{IsStanding}
use Rattle.world.proofs.Running.{flagged, running}
use Rattle.world.proofs.ServedSteps.{helping}
use Rattle.world.proofs.Stepping.{is_going}

-- the answers that a step of a run may have
abbrev IsStepAnswer : Answer → Type 0
IsStepAnswer answers.Moved = Unit {0}
IsStepAnswer (answers.Exited value) = Unit {0}
IsStepAnswer (answers.Refused why) = Unit {0}
IsStepAnswer answer = ⊥

outcome-fits : (out : Outcome) (run : Run) (answer : Answer) (new : Run) → OutcomeStep out run answer new → IsStepAnswer answer
outcome-fits (Moves next) run answer new h = subst IsStepAnswer (sym h.0) tt
outcome-fits (Exits n) run answer new h = subst IsStepAnswer (sym h.1) tt

insn-fits : (i : Insn) (s : MapStore) (opened : List Section) (run : Run) (answer : Answer) (new : MapStore)
    (new_run : Run) → StepsByKind i s opened run answer new new_run → IsStepAnswer answer
insn-fits (Call kinds.Kernel imm) s opened run answer new new_run h = subst IsStepAnswer (sym h.1) tt
insn-fits (Call kinds.Helper imm) s opened run answer new new_run h = subst IsStepAnswer (sym h.2) tt
insn-fits i s opened run answer new new_run h = outcome-fits h.0 run answer new_run h.4

answers-fit : (o : Option EventRefusal) (m : Machine) (r : ℕ) (answer : Answer) (new : Machine) →
    Answers o m (events.Step r) answer new → IsStepAnswer answer
answers-fit (Some k) m r answer new h = subst IsStepAnswer (sym h.0) tt
answers-fit None m r answer new h =
    insn-fits h.step.0 m.store (open_sections m.runs) h.run answer h.new_store h.new_run (run_by_kind m r answer new h)

does-fit : (m : Machine) (r : ℕ) (answer : Answer) (new : Machine) → DoesEvent m (events.Step r) answer new → IsStepAnswer answer
does-fit m r answer new h = answers-fit (refusal m (events.Step r)) m r answer new h

step-fits : (w : WorldView) (r : ℕ) → IsWorld w → r < 2 ^ 64 → IsStepAnswer (full_reaction w (events.Step r)).0
step-fits w r is real =
    let next = simulates w is.schedule (events.Step r) is.tracks is.ready real in
    does-fit is.schedule.machine r (full_reaction w (events.Step r)).0 next.0.machine next.1.step

-- what an instruction is answered that is no exit
abbrev MovesOrIdles : Answer → Type 0
MovesOrIdles answers.Moved = Unit {0}
MovesOrIdles answers.Done = Unit {0}
MovesOrIdles answer = ⊥

both : (answer : Answer) → IsStepAnswer answer → MovesOrIdles answer → answer ≡ answers.Moved
both answers.Moved a b = refl
both (answers.Exited value) a b = absurd b
both (answers.Refused why) a b = absurd b
both answer a b = absurd a

module _ (w : WorldView) (r : ℕ) (v : RunView) where
  store-moves : (width x : ℕ) (offset : ℤ) (l : Location) → MovesOrIdles (stored_at width x offset l r v w).0
  store-moves width x offset (InFrame o) = tt
  store-moves width x offset (InSlot map slot o) = tt
  store-moves width x offset (InContext o) = tt
  store-moves width x offset (AtMap map) = tt

  serves-moves : (helper : Helper) (map : ℕ) (o : Option MapView) → MovesOrIdles (serves helper map o r v w).0
  serves-moves helper map (Some m) = subst (λ (x : Answer × WorldView). MovesOrIdles x.0) (sym (helping r v w helper map m)) tt
  serves-moves helper map None = tt

  called-on-moves : (helper : Helper) (o : Option ℕ) → MovesOrIdles (helper_called_on helper o r v w).0
  called-on-moves helper (Some map) = serves-moves helper map (slice_get w.maps map)
  called-on-moves helper None = tt

  called-moves : (o : Option Helper) (program : Loaded) → MovesOrIdles (helper_called o program r v w).0
  called-moves (Some helper) program = called-on-moves helper (bound_number program v)
  called-moves None program = tt

  kernel-moves : (o : Option KernelFunction) → MovesOrIdles (kernel_called o r v w).0
  kernel-moves (Some ReadLock) = tt
  kernel-moves (Some ReadUnlock) = tt
  kernel-moves None = tt

  insn-moves : (i : Insn) (program : Loaded) → (i ≡ Exit → ⊥) → MovesOrIdles (insn_step i program r v w).0
  insn-moves (Call kinds.Helper imm) program never = called-moves (helper_of imm) program
  insn-moves (Call kinds.Kernel imm) program never = kernel-moves (kernel_function_of imm)
  insn-moves (Store width dst offset src) program never =
      store-moves (byte_count width) (operand_word v src) offset (location_of (word_in v dst))
  insn-moves Exit program never = absurd (never refl)
  insn-moves i program never = tt

-- a step that is that of an instruction other than an exit is a move
pub would-move : (w : WorldView) (r : ℕ) (v : RunView) (i : Insn) (program : Loaded) → IsWorld w → r < 2 ^ 64 →
    full_reaction w (events.Step r) ≡ insn_step i program r v w → (i ≡ Exit → ⊥) → WouldMove w r
would-move w r v i program is real same never =
    both (full_reaction w (events.Step r)).0 (step-fits w r is real)
    (subst (λ (x : Answer × WorldView). MovesOrIdles x.0) (sym same) (insn-moves w r v i program never))

-- of the parts of a world
module _ (names : List (List ℕ)) (maps : List MapView) (runs : List (Option RunWords)) (g : GraceState)
    (programs : List parts.Loaded) (given r : ℕ) (kept : IsKept maps runs g programs) where
  abbrev pub whole : WorldView
  whole = world_of names maps runs g programs given

  run-shown : run_at whole.runs r ≡ option_flatten (option_map view_of (slice_get runs r))
  run-shown = ap option_flatten (slice_get-map view_of runs r)

  refused-by : (k : EventRefusal) → step_refused (run_at whole.runs r) ≡ Some k → WouldBeRefused whole r
  refused-by k e = (k, ap (λ (o : Option EventRefusal). (or_step (step_by o whole) whole (events.Step r)).0) e)

  shown-refused : (o : Option (Option RunWords)) → slice_get runs r ≡ o →
      step_refused (run_at whole.runs r) ≡ step_refused (option_flatten (option_map view_of o))
  shown-refused o e =
      ap step_refused run-shown
      ∙ ap (λ (x : Option (Option RunWords)). step_refused (option_flatten (option_map view_of x))) e

  -- no run has the run slot
  none-refused : (o : Option (Option RunWords)) → slice_get runs r ≡ o → HasNoRun runs r → WouldBeRefused whole r
  none-refused None e none = refused-by NoRun (shown-refused None e)
  none-refused (Some None) e none = refused-by NoRun (shown-refused (Some None) e)
  none-refused (Some (Some run)) e none = absurd (none run e)

  pub no-run : HasNoRun runs r → WouldBeRefused whole r
  no-run none = none-refused (slice_get runs r) refl none

  -- the run that has it
  module _ (run : RunWords) (there : slice_get runs r ≡ Some (Some run)) where
    refused-is : step_refused (run_at whole.runs r) ≡ if_ended run.view.exit
    refused-is = shown-refused (Some (Some run)) there

    pub ended : (n : ℕ) → run.view.exit ≡ Some n → WouldBeRefused whole r
    ended n e = refused-by Ended (refused-is ∙ ap if_ended e)

    -- it has not ended
    module _ (is : IsWorld whole) (going : run.view.exit ≡ None) where
      shown : slice_get whole.runs r ≡ Some (Some run.view)
      shown = slice_get-map view_of runs r ∙ ap (option_map view_of) there

      pub standing : IsStanding runs programs r
      standing =
          let m = world_is_matched whole is in
          let x = is_going names maps runs g programs given r kept m.schedule m.matches m.sound (refused-is ∙ ap if_ended going) in
          record {
            run = x.run;
            there = x.there;
            loaded = x.loaded;
            of = x.of;
            stands = λ justified. (x.may.can justified).stands;
          }

      pub flagged-run : IsFlagged whole r run.view
      flagged-run =
          let m = world_is_matched whole is in
          let y = running whole m.schedule m.matches r run.view shown going in
          flagged whole m.schedule m.matches m.sound r y.0 run.view y.1
