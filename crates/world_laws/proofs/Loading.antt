-- Loads from elements.
use Rattle.bpf_model.proofs.Prelude.{◌≡◌, ℕ, ◌+◌, refl, ap, ◌∙◌, Some, List, length, inr, false, slice_get, slice_index, ℤ, pos, ◌+ℤ◌, none-some, byte_count}
use Rattle.bpf_model.proofs.Prelude.{unsigned_width, region_offset, number_at, loaded_signed, Element, accessible, is_reclaimed, open_sections, Run}
use Rattle.bpf_model.proofs.Prelude.{loaded_from, Schedule, Outcome, RunView, WorldView, value_in, WordIs, OutcomeStep}
use Rattle.model_laws.proofs.Prelude.{Load, LoadSigned, Width, SignedWidth, Value, Nothing, Number, Pointer, Ctx, Frame, MapRef, Elem, AccessesElement}
use Rattle.model_laws.proofs.Prelude.{element_load, IsNear, Location, InSlot, Matches, Answer}
use Rattle.world_laws.proofs.Prelude.{location_of, bytes_of, offset_at, number_from, loaded_word, word_in, insn_step, IsSound, IsRunning, Goes, with_word}
use Rattle.model_laws.proofs.Storing.{accessible-kept}
use Rattle.model_laws.proofs.Stores.{accessible-born}
use Rattle.plan_laws.proofs.Elements.{offset_some}
use Rattle.world_laws.specs.Locating.{value_of}
use Rattle.world_laws.proofs.Places.{slot-location}
use Rattle.world_laws.proofs.Bytes.{number-read}
use Rattle.world_laws.proofs.Shown.{Shown, shown}
use Rattle.world_laws.proofs.Ready.{bases}
use Rattle.world_laws.proofs.Own.{Known, Does, insn-real, among, carried}
use Rattle.world_laws.proofs.Among.{register-word, sets-word}
use Rattle.model_laws.proofs.Computations.{first-step}
use Rattle.model_laws.proofs.Requests.{of_kind}

-- an element that may be accessed is there, and not reclaimed
pub accessible-known : (es : List Element) (n : ℕ) (e : Element) → accessible es n ≡ Some e → (slice_get es n ≡ Some e) × (is_reclaimed e.life ≡ false)
accessible-known es n e h = (accessible-born es n (slice_get es n) e refl h, accessible-kept es n (slice_get es n) e refl h)

module _ (w : WorldView) (s : Schedule) (m : Matches w s) (sound : IsSound w s) (r : ℕ) (run : Run) (v : RunView) (k : IsRunning w s r run v) where
  -- a load at a known location
  located : (width x : ℕ) (offset : ℤ) (l : Location) → location_of x ≡ l →
      loaded_word w v width offset x ≡ number_from (bytes_of w v l) width (offset_at l +ℤ offset)
  located width x offset l e = ap (λ l. number_from (bytes_of w v l) width (offset_at l +ℤ offset)) e

  -- where the word of an element leads
  pub element-located : (n x : ℕ) (o : ℤ) (e : Element) → accessible s.machine.store.elements n ≡ Some e →
      WordIs (bases w s m sound r run v k) (Pointer (Elem n o)) x → IsNear (Pointer (Elem n o)) →
      Shown w s m.refines n e × (location_of x ≡ InSlot e.map (slice_index m.refines.slots n) o)
  element-located n x o e access word close =
      let a = accessible-known s.machine.store.elements n e access in
      let h = shown w s m.refines sound.well sound.limits sound.maps n e a.0 a.1 in
      (h, slot-location x e.map (slice_index m.refines.slots n) o h.few_slots close (word ∙ ap (λ b. pos b +ℤ o) h.base))

  pub element-word : (width x : ℕ) (offset : ℤ) (base : Value) (n : ℕ) → WordIs (bases w s m sound r run v k) base x →
      IsNear base → element_load s.machine.store.elements width offset base ≡ Some n →
      loaded_word w v width offset x ≡ n
  element-word width x offset Nothing n word close e = absurd (none-some n e)
  element-word width x offset (Number a) n word close e = absurd (none-some n e)
  element-word width x offset (Pointer (Ctx o)) n word close e = absurd (none-some n e)
  element-word width x offset (Pointer (Frame o)) n word close e = absurd (none-some n e)
  element-word width x offset (Pointer (MapRef i)) n word close e = absurd (none-some n e)
  element-word width x offset (Pointer (Elem b o)) n word close e =
      let f = first-step (accessible s.machine.store.elements b) (loaded_from width (o +ℤ offset)) n e in
      let g = first-step (region_offset (length f.0.value) width (o +ℤ offset)) (λ at. number_at (slice_get f.0.value) at width) n f.2 in
      let p = offset_some (length f.0.value) width (o +ℤ offset) g.0 g.1 in
      let x-at = element-located b x o f.0 f.1 word close in
      let slot = slice_index m.refines.slots b in
      let bytes : value_of (slice_get w.maps f.0.map) slot ≡ f.0.value = ap (λ o. value_of o slot) x-at.0.there ∙ ap value_in x-at.0.slot in
      located width x offset (InSlot f.0.map slot o) x-at.1
      ∙ number-read (value_of (slice_get w.maps f.0.map) slot) width g.0 n (o +ℤ offset) p.0
      (ap (λ (c : List ℕ). number_at (slice_get c) g.0 width) bytes ∙ g.2)

  -- a load from an element
  pub element-load-simulates : (width : Width) (dst src : ℕ) (offset : ℤ) (out : Outcome) (answer : Answer) (later : Run) →
      Known w s m sound r run v k (Load width dst src offset) →
      AccessesElement (Load width dst src offset) s.machine.store.elements run.state out s.machine.store.elements →
      OutcomeStep out run answer later → Does w s m sound r run v k (insn_step (Load width dst src offset) run.program r v w)
  element-load-simulates width dst src offset out answer later here h ends =
      let i = Load width dst src offset in
      let real = insn-real w s m sound r run v k i here in
      let a = among w s m sound r run v k in
      let x = loaded_word w v (byte_count width) offset (word_in v src) in
      carried w s m sound r run v k i out (Goes (with_word 1 dst x v)) _ answer later here
      (λ answer later g.
      of_kind i s.machine.store (open_sections s.machine.runs) run answer s.machine.store later (out, s.machine.store.elements, inr h, refl, g))
      ends (sets-word a out 1 dst x (Number h.0) real.0 h.2
      (element-word (byte_count width) (word_in v src) offset (run.state.regs src) h.0 (register-word a src real.1) (a.near.regs_near src) h.1)) refl

  pub element-load-signed-simulates : (width : SignedWidth) (dst src : ℕ) (offset : ℤ) (out : Outcome) (answer : Answer) (later : Run) →
      Known w s m sound r run v k (LoadSigned width dst src offset) →
      AccessesElement (LoadSigned width dst src offset) s.machine.store.elements run.state out s.machine.store.elements →
      OutcomeStep out run answer later → Does w s m sound r run v k (insn_step (LoadSigned width dst src offset) run.program r v w)
  element-load-signed-simulates width dst src offset out answer later here h ends =
      let i = LoadSigned width dst src offset in
      let real = insn-real w s m sound r run v k i here in
      let a = among w s m sound r run v k in
      let wide = byte_count (unsigned_width width) in
      let x = loaded_signed width (loaded_word w v wide offset (word_in v src)) in
      carried w s m sound r run v k i out (Goes (with_word 1 dst x v)) _ answer later here
      (λ answer later g.
      of_kind i s.machine.store (open_sections s.machine.runs) run answer s.machine.store later (out, s.machine.store.elements, inr h, refl, g))
      ends (sets-word a out 1 dst x (Number (loaded_signed width h.0)) real.0 h.2
      (ap (loaded_signed width) (element-word wide (word_in v src) offset (run.state.regs src) h.0 (register-word a src real.1)
      (a.near.regs_near src) h.1))) refl
