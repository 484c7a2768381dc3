-- The words of the runs stand for what they stood for.
use Rattle.bpf_model.proofs.Prelude.{◌≡◌, ◌∙◌, ℕ, ◌<◌, List, length, Option, Some, None, refl, sym, ap, slice_index, pos, ◌+ℤ◌, Element, Loaded, Run}
use Rattle.bpf_model.proofs.Prelude.{slot_base, IsReferenceWord, WordIs, ByteIs, element_bases, RunView, RunRefines, RunSlotRefines, option_flatten}
use Rattle.model_laws.proofs.Prelude.{Value, Nothing, Number, Pointer, Reference, Ctx, Frame, MapRef, Elem, Cell, Unwritten, Byte, Part, IsBorn, IsBornValue}
use Rattle.model_laws.proofs.Prelude.{IsBornCell}
use Rattle.model_laws.proofs.Born.{IsBornState}
use Rattle.model_laws.proofs.ViewsChanging.{Changes}

module _ (k : ℕ) (slots names : List ℕ) (es fs : List Element) (c : Changes k slots names es fs) where
  base-kept : (n : ℕ) → n < length es → element_bases names fs n ≡ element_bases slots es n
  base-kept n h = λ j. slot_base (c.maps n h j) (c.named n h j)

  reference-word : (r : Reference) (w : ℕ) → IsBorn (length es) r → IsReferenceWord (element_bases slots es) r w → IsReferenceWord (element_bases names fs) r w
  reference-word (Ctx o) w b h = h
  reference-word (Frame o) w b h = h
  reference-word (MapRef m) w b h = h
  reference-word (Elem n o) w b h = h ∙ ap (λ base. pos base +ℤ o) (sym (base-kept n b))

  value-word : (v : Value) (w : ℕ) → IsBornValue (length es) v → WordIs (element_bases slots es) v w → WordIs (element_bases names fs) v w
  value-word Nothing w b h = tt
  value-word (Number n) w b h = h
  value-word (Pointer r) w b h = reference-word r w b h

  cell-byte : (x : Cell) (byte : ℕ) → IsBornCell (length es) x → ByteIs (element_bases slots es) x byte → ByteIs (element_bases names fs) x byte
  cell-byte Unwritten byte b h = tt
  cell-byte (Byte n) byte b h = h
  cell-byte (Part i r) byte b h = (h.0, h.1, reference-word r h.0 b h.2, h.3)

  run-kept : (programs : List Loaded) (w : RunView) (run : Run) → IsBornState (length es) run.state →
      RunRefines slots es programs w run → RunRefines names fs programs w run
  run-kept programs w run b h = record {
    program = h.program;
    words = record {
      context = h.words.context;
      register_count = h.words.register_count;
      registers = λ r less. value-word (run.state.regs r) (slice_index w.registers r) (b.0 r) (h.words.registers r less);
      cells = h.words.cells;
      frame = λ i less. cell-byte (run.state.frame i) (slice_index w.frame i) (b.1 i) (h.words.frame i less);
      place = h.words.place;
      depth = h.words.depth;
      moved = h.words.moved;
      exit = h.words.exit;
    };
  }

  -- each reference of the run is to an element that was born
  abbrev pub AreBorn : Option (Option Run) → Type 0
  AreBorn run = (x : Run) → option_flatten run ≡ Some x → IsBornState (length es) x.state

  pub slot-kept : (programs : List Loaded) (w : Option (Option RunView)) (run : Option (Option Run)) → AreBorn run →
      RunSlotRefines slots es programs w run → RunSlotRefines names fs programs w run
  slot-kept programs None None b h = tt
  slot-kept programs (Some None) (Some None) b h = tt
  slot-kept programs (Some (Some w)) (Some (Some run)) b h = run-kept programs w run (b run refl) h
  slot-kept programs w run b h = absurd h
