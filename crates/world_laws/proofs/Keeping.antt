-- No reaction changes the name or the shape of a map, or the programs.
use Rattle.bpf_model.proofs.Prelude.{◌≡◌, ℕ, Option, Some, None, refl, slice_get, ℤ, pos, negsuc, ◌+ℤ◌, byte_count, helper_of, kernel_function_of, Loaded}
use Rattle.bpf_model.proofs.Prelude.{run_at, insn_at, MapView, RunView, WorldView}
use Rattle.model_laws.proofs.Prelude.{Helper, Lookup, Update, Delete, KernelFunction, ReadLock, ReadUnlock, Answer, Event, Insn, Store, Call, Location}
use Rattle.model_laws.proofs.Prelude.{InContext, InFrame, AtMap, InSlot, shown_error, reaction}
use Rattle.world_laws.proofs.Prelude.{location_of, word_in, operand_word, stored_slot, stored_at, bytes_in, bound_number, serves, helper_called_on}
use Rattle.world_laws.proofs.Prelude.{helper_called, kernel_called, insn_step, step_at, step_in, run_step_of, word_step, or_step, full_reaction}
use Rattle.bpf_model.specs.declared.event.Event.TheVariants as events
use Rattle.bpf_model.specs.declared.insn.CallKind.TheVariants as kinds
use Rattle.model_laws.proofs.Reacting.{Keeps, reaction_keeps, deleted-shape, updated-shape, map-keeps}

module _ (w : WorldView) where
  slot-keeps : (width x : ℕ) (z : ℤ) (k slot : ℕ) (o : Option MapView) → slice_get w.maps k ≡ o → Keeps w (stored_slot width x z k o slot w)
  slot-keeps width x (pos at) k slot (Some v) e = map-keeps w k v _ e refl
  slot-keeps width x (pos at) k slot None e = (refl, refl, refl)
  slot-keeps width x (negsuc n) k slot o e = (refl, refl, refl)

  store-keeps : (width x : ℕ) (offset : ℤ) (l : Location) (r : ℕ) (v : RunView) → Keeps w (stored_at width x offset l r v w).1
  store-keeps width x offset (InFrame o) r v = (refl, refl, refl)
  store-keeps width x offset (InContext o) r v = (refl, refl, refl)
  store-keeps width x offset (AtMap k) r v = (refl, refl, refl)
  store-keeps width x offset (InSlot k slot o) r v = slot-keeps width x (o +ℤ offset) k slot (slice_get w.maps k) refl

  serves-keeps : (helper : Helper) (k r : ℕ) (v : RunView) (o : Option MapView) → slice_get w.maps k ≡ o → Keeps w (serves helper k o r v w).1
  serves-keeps Lookup k r v (Some m) e = (refl, refl, refl)
  serves-keeps Update k r v (Some m) e =
      let key = bytes_in v 2 m.shape.key_len in
      map-keeps w k m _ e (updated-shape (shown_error m key (word_in v 4)) m key (bytes_in v 3 m.shape.value_len))
  serves-keeps Delete k r v (Some m) e = let key = bytes_in v 2 m.shape.key_len in map-keeps w k m _ e (deleted-shape m.shape.kind m key)
  serves-keeps helper k r v None e = (refl, refl, refl)

  helped_on-keeps : (helper : Helper) (o : Option ℕ) (r : ℕ) (v : RunView) → Keeps w (helper_called_on helper o r v w).1
  helped_on-keeps helper (Some k) r v = serves-keeps helper k r v (slice_get w.maps k) refl
  helped_on-keeps helper None r v = (refl, refl, refl)

  helped-keeps : (o : Option Helper) (program : Loaded) (r : ℕ) (v : RunView) → Keeps w (helper_called o program r v w).1
  helped-keeps (Some helper) program r v = helped_on-keeps helper (bound_number program v) r v
  helped-keeps None program r v = (refl, refl, refl)

  entered-keeps : (o : Option KernelFunction) (r : ℕ) (v : RunView) → Keeps w (kernel_called o r v w).1
  entered-keeps (Some ReadLock) r v = (refl, refl, refl)
  entered-keeps (Some ReadUnlock) r v = (refl, refl, refl)
  entered-keeps None r v = (refl, refl, refl)

  pub insn-keeps : (i : Insn) (program : Loaded) (r : ℕ) (v : RunView) → Keeps w (insn_step i program r v w).1
  insn-keeps (Call kinds.Helper imm) program r v = helped-keeps (helper_of imm) program r v
  insn-keeps (Call kinds.Kernel imm) program r v = entered-keeps (kernel_function_of imm) r v
  insn-keeps (Store width dst offset src) program r v = store-keeps (byte_count width) (operand_word v src) offset (location_of (word_in v dst)) r v
  insn-keeps i program r v = (refl, refl, refl)

  at-keeps : (o : Option Insn) (program : Loaded) (r : ℕ) (v : RunView) → Keeps w (step_at o program r v w).1
  at-keeps (Some i) program r v = insn-keeps i program r v
  at-keeps None program r v = (refl, refl, refl)

  in-keeps : (o : Option Loaded) (r : ℕ) (v : RunView) → Keeps w (step_in o r v w).1
  in-keeps (Some program) r v = at-keeps (insn_at program.code v.place) program r v
  in-keeps None r v = (refl, refl, refl)

  of-keeps : (o : Option RunView) (r : ℕ) → Keeps w (run_step_of o r w).1
  of-keeps (Some v) r = in-keeps (slice_get w.programs v.program) r v
  of-keeps None r = (refl, refl, refl)

  pub step-keeps : (r : ℕ) → Keeps w (word_step w r).1
  step-keeps r = of-keeps (run_at w.runs r) r

  left-keeps : (event : Event) → Keeps w (or_step None w event).1
  left-keeps (events.Step r) = step-keeps r
  left-keeps event = (refl, refl, refl)

  either-keeps : (event : Event) (o : Option (Answer × WorldView)) → reaction w event ≡ o → Keeps w (or_step o w event).1
  either-keeps event (Some x) e = reaction_keeps w event x e
  either-keeps event None e = left-keeps event

  pub full_keeps : (event : Event) → Keeps w (full_reaction w event).1
  full_keeps event = either-keeps event (reaction w event) refl
