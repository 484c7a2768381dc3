-- A run that has not ended in a world whose programs are verified: its flag, and that what it asks can be served.
use Rattle.bpf_model.proofs.Prelude.{◌≡◌, ◌∙◌, ℕ, ◌≤◌, refl, sym, ap, subst, Some, None, slice_get, option_map, ℤ, none-some, same_Some, byte_count}
use Rattle.bpf_model.proofs.Prelude.{unsigned_width, loaded_signed, Loaded, Run, Schedule, insn_at, RunView, WorldView, run-behind, option_flatten}
use Rattle.machine.proofs.Prelude.{request_of, kernel_request}
use Rattle.model_laws.proofs.Prelude.{KernelFunction, ReadLock, ReadUnlock, Kernel, Insn, MAX_DEPTH, Location, InContext, InFrame, AtMap, InSlot, Matches}
use Rattle.world.proofs.Prelude.{Request, Call, ReachesElement, CanServe, IsFlagged}
use Rattle.world_laws.proofs.Prelude.{Goes, Asks, local_of, local_load, local_store, location_of, word_in, operand_word, IsAllowed, Reaches, IsWritable}
use Rattle.world_laws.proofs.Prelude.{IsSound, IsRunning}
use Rattle.bpf_model.specs.declared.insn.CallKind.TheVariants.{Helper}
use Rattle.bpf_model.specs.declared.insn.Insn.TheVariants as insns
use Rattle.world_laws.proofs.Flags.{flag, awaited_open}
use Rattle.world_laws.proofs.Ready.{refines}
use Rattle.machine.proofs.Laws.{same-program}
use Rattle.world_laws.proofs.Reaching.{load_reaches, load_signed_reaches, store_reaches, helper_arguments, kernel_call_allowed}

-- the machine's run in the slot of a run that has not ended
pub running : (w : WorldView) (s : Schedule) → Matches w s → (r : ℕ) (v : RunView) →
    slice_get w.runs r ≡ Some (Some v) → v.exit ≡ None → (run : Run) × IsRunning w s r run v
running w s m r v shown going =
    let y = run-behind m.refines.slots s.machine.store.elements s.machine.programs v (slice_get w.runs r)
    (slice_get s.machine.runs r) shown (m.refines.runs r) in
    (y.0, record { there = ap option_flatten y.1; shown = shown; going = sym y.2.words.exit ∙ going })

goes-asks : (new : RunView) → Goes new ≡ Asks → ⊥
goes-asks new e = absurd (cc)

loads-element : (w : WorldView) (v : RunView) (width : ℕ) (offset : ℤ) (dst : ℕ) (make : ℕ → ℕ) (l : Location) →
    Reaches w v width offset l → local_load width offset dst make l v ≡ Asks → ReachesElement w.maps width offset l
loads-element w v width offset dst make (InSlot map slot o) h e = record { view = h.view; there = h.there; occupied = h.occupied; inside = h.inside }
loads-element w v width offset dst make (AtMap map) h e = absurd h
loads-element w v width offset dst make (InContext o) h e = absurd (goes-asks _ e)
loads-element w v width offset dst make (InFrame o) h e = absurd (goes-asks _ e)

stores-element : (w : WorldView) (v : RunView) (width : ℕ) (offset : ℤ) (number : ℕ) (l : Location) →
    Reaches w v width offset l × IsWritable l → local_store width offset number l v ≡ Asks →
    ReachesElement w.maps width offset l
stores-element w v width offset number (InSlot map slot o) h e = record { view = h.0.view; there = h.0.there; occupied = h.0.occupied; inside = h.0.inside }
stores-element w v width offset number (AtMap map) h e = absurd h.0
stores-element w v width offset number (InContext o) h e = absurd h.1
stores-element w v width offset number (InFrame o) h e = absurd (goes-asks _ e)

module _ (w : WorldView) (s : Schedule) (m : Matches w s) (sound : IsSound w s) (r : ℕ) (run : Run) (v : RunView) (k : IsRunning w s r run v) where
  pub flagged : IsFlagged w r v
  flagged =
      let depth : v.depth ≡ run.depth = (refines w s m sound r run v k).words.depth in
      record {
        opened = flag w s m sound r run v v k refl;
        awaited = awaited_open w s m;
        depth = subst (λ n. n ≤ MAX_DEPTH) (sym depth) (m.scheduled.consistent.deep r run k.there);
      }

  abbrev Can : Request → Type 0
  Can request = CanServe request run.program.maps w.maps v

  sections : (f : KernelFunction) → IsAllowed f v.depth → Can (kernel_request f)
  sections ReadLock h = h
  sections ReadUnlock h = h

  can-here : (i : Insn) (request : Request) → insn_at run.program.code run.state.place ≡ Some i → local_of i v ≡ Asks
      → request_of i v ≡ Some request → Can request
  can-here (insns.Load width dst src offset) request here asks e = subst Can (same_Some _ request e)
      (loads-element w v (byte_count width) offset dst (λ n. n) (location_of (word_in v src))
      (load_reaches w s m sound r run v k width dst src offset here) asks)
  can-here (insns.LoadSigned width dst src offset) request here asks e = subst Can (same_Some _ request e)
      (loads-element w v (byte_count (unsigned_width width)) offset dst (loaded_signed width)
      (location_of (word_in v src)) (load_signed_reaches w s m sound r run v k width dst src offset here) asks)
  can-here (insns.Store width dst offset src) request here asks e = subst Can (same_Some _ request e)
      (stores-element w v (byte_count width) offset (operand_word v src) (location_of (word_in v dst))
      (store_reaches w s m sound r run v k width dst offset src here) asks)
  can-here (insns.Call Helper imm) request here asks e =
      let x = helper_arguments w s m sound r run v k imm here in
      subst Can (same_Some (Call x.0) request (ap (option_map Call) (sym x.1) ∙ e)) x.2
  can-here (insns.Call Kernel imm) request here asks e =
      let x = kernel_call_allowed w s m sound r run v k imm here in
      subst Can (same_Some (kernel_request x.0) request (ap (option_map kernel_request) (sym x.1) ∙ e)) (sections x.0 x.2)
  can-here i request here asks e = absurd (none-some request e)

  abbrev Servable : Loaded → Type 0
  Servable program = (i : Insn) (request : Request) → insn_at program.code v.place ≡ Some i → local_of i v ≡ Asks →
      request_of i v ≡ Some request → CanServe request program.maps w.maps v

  pub can_be_served : (program : Loaded) → slice_get w.programs v.program ≡ Some program → Servable program
  can_be_served program at = subst Servable (same-program w s m sound r run v k program at)
      (λ i request here. can-here i request (sym (ap (insn_at run.program.code) (refines w s m sound r run v k).words.place) ∙ here))
