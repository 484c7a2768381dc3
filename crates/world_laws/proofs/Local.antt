-- What a run does without its world is what it does in it, and it asks exactly where the machine's run can't act by itself.
use Rattle.bpf_model.proofs.Prelude.{◌≡◌, ℕ, refl, ap, subst, List, Some, ℤ, ◌+ℤ◌, none-some, byte_count, unsigned_width, loaded_signed, Element, accessible}
use Rattle.bpf_model.proofs.Prelude.{Loaded, Run, environment, loaded_from, operand_value, Schedule, Outcome, after, RunView, WorldView, WordIs, Moves, Exits}
use Rattle.model_laws.proofs.Prelude.{Insn, Call, Load, LoadSigned, Store, Value, Nothing, Number, Pointer, Ctx, Frame, MapRef, Elem, AccessesElement}
use Rattle.model_laws.proofs.Prelude.{element_load, IsNear, Location, InContext, InFrame, AtMap, InSlot, Matches}
use Rattle.world_laws.proofs.Prelude.{Asks, local_load, local_store, local_of, Agrees, AsksNothing, location_of, bytes_of, offset_at, number_from, word_in}
use Rattle.world_laws.proofs.Prelude.{operand_word, with_word, moves_on, stored_at, insn_step, IsSound, IsRunning, LocalStep, Goes, Ends}
use Rattle.world_laws.proofs.Ready.{bases, near, register-word}
use Rattle.world_laws.proofs.Own.{Known, insn-real, among}
use Rattle.world_laws.proofs.Among.{Does}
use Rattle.world_laws.proofs.OwnMemory.{acts-alone}
use Rattle.world_laws.proofs.Loading.{element-located}
use Rattle.world_laws.proofs.Storing.{element-known}
use Rattle.model_laws.proofs.Computations.{first-step}

load-agrees : (width dst : ℕ) (offset : ℤ) (make : ℕ → ℕ) (l : Location) (r : ℕ) (v : RunView) (w : WorldView) →
    Agrees (local_load width offset dst make l v) r v w
    (moves_on r (with_word 1 dst (make (number_from (bytes_of w v l) width (offset_at l +ℤ offset))) v) w)
load-agrees width dst offset make (InContext o) r v w = refl
load-agrees width dst offset make (InFrame o) r v w = refl
load-agrees width dst offset make (AtMap i) r v w = tt
load-agrees width dst offset make (InSlot i slot o) r v w = tt

store-agrees : (width x : ℕ) (offset : ℤ) (l : Location) (r : ℕ) (v : RunView) (w : WorldView) →
    Agrees (local_store width offset x l v) r v w (stored_at width x offset l r v w)
store-agrees width x offset (InContext o) r v w = tt
store-agrees width x offset (InFrame o) r v w = refl
store-agrees width x offset (AtMap i) r v w = tt
store-agrees width x offset (InSlot i slot o) r v w = tt

pub local_agrees : (i : Insn) (program : Loaded) (r : ℕ) (v : RunView) (w : WorldView) → Agrees (local_of i v) r v w (insn_step i program r v w)
local_agrees (Call kind imm) program r v w = tt
local_agrees (Load width dst src offset) program r v w = load-agrees (byte_count width) dst offset (λ n. n) (location_of (word_in v src)) r v w
local_agrees (LoadSigned width dst src offset) program r v w =
    load-agrees (byte_count (unsigned_width width)) dst offset (loaded_signed width) (location_of (word_in v src)) r v
    w
local_agrees (Store width dst offset src) program r v w = store-agrees (byte_count width) (operand_word v src) offset (location_of (word_in v dst)) r v w
local_agrees i program r v w = refl

nothing-asked : (b : ℕ → ℕ) (v : RunView) (run : Run) (out : Outcome) (l : LocalStep) → Does b v run out l → AsksNothing l
nothing-asked b v run (Moves next) (Goes new) d = tt
nothing-asked b v run (Exits n) (Ends m) d = tt
nothing-asked b v run out l d = absurd d

module _ (w : WorldView) (s : Schedule) (m : Matches w s) (sound : IsSound w s) (r : ℕ) (run : Run) (v : RunView) (k : IsRunning w s r run v) where
  pub asks_nothing : (i : Insn) (out : Outcome) → Known w s m sound r run v k i → after i (environment run) run.state ≡ Some out → AsksNothing (local_of i v)
  asks_nothing i out here e =
      nothing-asked (bases w s m sound r run v k) v run out (local_of i v) (acts-alone (among w s m sound r run v k) i out here e)

  -- an access to an element
  element-here : (width dst x n : ℕ) (offset : ℤ) (make : ℕ → ℕ) (base : Value) →
      WordIs (bases w s m sound r run v k) base x → IsNear base →
      element_load s.machine.store.elements width offset base ≡ Some n →
      local_load width offset dst make (location_of x) v ≡ Asks
  element-here width dst x n offset make Nothing word close e = absurd (none-some n e)
  element-here width dst x n offset make (Number a) word close e = absurd (none-some n e)
  element-here width dst x n offset make (Pointer (Ctx o)) word close e = absurd (none-some n e)
  element-here width dst x n offset make (Pointer (Frame o)) word close e = absurd (none-some n e)
  element-here width dst x n offset make (Pointer (MapRef i)) word close e = absurd (none-some n e)
  element-here width dst x n offset make (Pointer (Elem b o)) word close e =
      let f = first-step (accessible s.machine.store.elements b) (loaded_from width (o +ℤ offset)) n e in
      ap (λ l. local_load width offset dst make l v) (element-located w s m sound r run v k b x o f.0 f.1 word close).1

  pub asks_for_element : (i : Insn) (out : Outcome) (es : List Element) → Known w s m sound r run v k i →
      AccessesElement i s.machine.store.elements run.state out es → local_of i v ≡ Asks
  asks_for_element (Load width dst src offset) out es here h =
      element-here (byte_count width) dst (word_in v src) h.0 offset (λ n. n) (run.state.regs src)
      (register-word w s m sound r run v k src (insn-real w s m sound r run v k (Load width dst src offset)
      here).1) ((near w s m sound r run v k).regs_near src) h.1
  asks_for_element (LoadSigned width dst src offset) out es here h =
      element-here (byte_count (unsigned_width width)) dst (word_in v src) h.0 offset (loaded_signed width)
      (run.state.regs src) (register-word w s m sound r run v k src
      (insn-real w s m sound r run v k (LoadSigned width dst src offset) here).1)
      ((near w s m sound r run v k).regs_near src) h.1
  asks_for_element (Store width dst offset src) out es here h =
      let f = element-known s.machine.store.elements (byte_count width) offset (operand_value src run.state.regs) (run.state.regs dst) es h.0 in
      let l = (insn-real w s m sound r run v k (Store width dst offset src) here).0 in
      let word = subst (λ u. WordIs (bases w s m sound r run v k) u (word_in v dst)) f.there.base_is (register-word w s m sound r run v k dst l) in
      ap (λ l. local_store (byte_count width) offset (operand_word v src) l v)
      (element-located w s m sound r run v k f.there.n (word_in v dst) f.there.o f.element f.access word
      (subst IsNear f.there.base_is ((near w s m sound r run v k).regs_near dst))).1
  asks_for_element i out es here h = absurd h
