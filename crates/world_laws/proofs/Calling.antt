-- Calls: a lock, an unlock, and the helpers.
use Rattle.bpf_model.proofs.Prelude.{◌≡◌, ℕ, ◌+◌, ◌-◌, ◌<◌, ◌≤◌, refl, sym, ap, subst, ◌∙◌, arith, Option, Some, None, List, length, Bool, true, false}
use Rattle.bpf_model.proofs.Prelude.{slice_get, slice_index, slice_set, take, drop, ℤ, pos, negsuc, ◌+ℤ◌, ◌==◌, nat_le, if◌then◌else◌, get, ints, leb-true}
use Rattle.bpf_model.proofs.Prelude.{length-set, none-some, same_Some, slice_get_within, helper_of, kernel_function_of, ret_word, Element, LooksUp, Loaded}
use Rattle.bpf_model.proofs.Prelude.{Run, open_sections, moves, returns, returned_value, found_value, frame_bytes, bytes_at, RunRefines, Schedule, ◌>>=◌}
use Rattle.bpf_model.proofs.Prelude.{reference, MapView, RunView, WorldView, WordIs, element_bases, map_in, slot_base, map_base, frame_base, get-below}
use Rattle.bpf_model.proofs.Prelude.{AreWords}
use Rattle.model_laws.proofs.Prelude.{FRAME_BYTES, REGISTERS, Helper, Lookup, Update, Delete, KernelFunction, ReadLock, ReadUnlock, Moved, Call, MapShape}
use Rattle.model_laws.proofs.Prelude.{Value, Nothing, Number, Pointer, Ctx, Frame, MapRef, Elem, KernelStep, HelperStep, LookupStep, UpdateStep, DeleteStep}
use Rattle.model_laws.proofs.Prelude.{map_argument, bound_map, key_argument, Matches, with_map, deleted, updated}
use Rattle.world_laws.proofs.Prelude.{word_in, moves_on, bound_number, bytes_in, returned_view, found_word, serves, helper_called_on, helper_called}
use Rattle.world_laws.proofs.Prelude.{kernel_called, insn_step, IsSound, IsRunning}
use Rattle.bpf_model.specs.declared.insn.CallKind.TheVariants as kinds
use Rattle.bpf_model.specs.MapState as map_state
use Rattle.model_laws.proofs.Computations.{first-step}
use Rattle.model_laws.proofs.ViewedWorlds.{here}
use Rattle.model_laws.proofs.Running.{lock_simulates, unlock_simulates, halves_simulate}
use Rattle.model_laws.proofs.Deleting.{delete_half}
use Rattle.model_laws.proofs.Updating.{update_half}
use Rattle.world_laws.proofs.Words.{number_word}
use Rattle.world_laws.proofs.Bytes.{set_cond, argument-bytes}
use Rattle.world_laws.proofs.Ready.{bases, refines, register-word, byte-stands, moves-to, half-refines}
use Rattle.world_laws.proofs.Own.{Known, Does}
use Rattle.world_laws.proofs.Among.{moved-words}
use Rattle.model_laws.proofs.Requests.{of_kind}

word-returned : (bases : ℕ → ℕ) (a b : Bool) (x y : ℕ) (u v : Value) → WordIs bases u x → WordIs bases v y →
    WordIs bases (if a then u else if b then Nothing else v) (if a then x else y)
word-returned bases true b x y u v p q = p
word-returned bases false true x y u v p q = tt
word-returned bases false false x y u v p q = q

pub returned-words : (b : ℕ → ℕ) (v : RunView) (run : Run) → AreWords b v run → (ret : Value) (word : ℕ) → WordIs b ret word →
    AreWords b (returned_view word v) (moves run (returns ret run.state))
returned-words b v run h ret word is =
    let register_count : length v.registers ≡ REGISTERS = h.register_count in
    moved-words b v run h (slice_set v.registers 0 word) v.frame (v.place + 1) (returns ret run.state) (length-set v.registers 0 word ∙ h.register_count)
    (λ q l. subst (λ y. WordIs b (returned_value ret run.state.regs q) y) (sym (set_cond v.registers 0 word q (omega (arith, register_count))))
    (word-returned b (q == 0) (nat_le q 5) word (slice_index v.registers q) ret (run.state.regs q) is (h.registers q l)))
    h.cells h.frame (ap (λ p. p + 1) h.place)

returned-refines : (slots : List ℕ) (es : List Element) (programs : List Loaded) (v : RunView) (run : Run) →
    RunRefines slots es programs v run → (ret : Value) (word : ℕ) → WordIs (element_bases slots es) ret word →
    RunRefines slots es programs (returned_view word v) (moves run (returns ret run.state))
returned-refines slots es programs v run h ret word is =
    record { program = h.program; words = returned-words (element_bases slots es) v run h.words ret word is }

module _ (w : WorldView) (s : Schedule) (m : Matches w s) (sound : IsSound w s) (r : ℕ) (run : Run) (v : RunView) (k : IsRunning w s r run v) where
  abbrev b : ℕ → ℕ
  b = bases w s m sound r run v k

  -- a lock and an unlock
  pub kernel-simulates : (imm : ℤ) (later : Run) (o : Option KernelFunction) →
      Known w s m sound r run v k (Call kinds.Kernel imm) → kernel_function_of imm ≡ o → KernelStep o run later →
      Does w s m sound r run v k (insn_step (Call kinds.Kernel imm) run.program r v w)
  kernel-simulates imm later (Some ReadLock) at e h = subst (λ o. Does w s m sound r run v k (kernel_called o r v w))
      (sym e) (lock_simulates w s m r run v imm k.there k.shown k.going at e h.0)
  kernel-simulates imm later (Some ReadUnlock) at e h =
      subst (λ o. Does w s m sound r run v k (kernel_called o r v w)) (sym e)
      (unlock_simulates w s m r run v imm k.there k.shown k.going at e h.0)
  kernel-simulates imm later None at e h = absurd h

  -- the number of the map that an argument's word names
  map-number : (u : Value) (x map : ℕ) → WordIs b u x → (reference u >>= bound_map run.program.maps) ≡ Some map →
      slice_get run.program.maps (x - map_base) ≡ Some map
  map-number Nothing x map word e = absurd (none-some map e)
  map-number (Number n) x map word e = absurd (none-some map e)
  map-number (Pointer (Ctx o)) x map word e = absurd (none-some map e)
  map-number (Pointer (Frame o)) x map word e = absurd (none-some map e)
  map-number (Pointer (Elem n o)) x map word e = absurd (none-some map e)
  map-number (Pointer (MapRef i)) x map word e =
      let is : x - map_base ≡ i = omega (arith, ints, word) in
      ap (slice_get run.program.maps) is ∙ e

  -- bytes of the frame
  bytes-from : (u : Value) (x len : ℕ) (bytes : List ℕ) → WordIs b u x →
      frame_bytes run.state.frame len u ≡ Some bytes → take len (drop (x - frame_base) v.frame) ≡ bytes
  bytes-from Nothing x len bytes word e = absurd (none-some bytes e)
  bytes-from (Number n) x len bytes word e = absurd (none-some bytes e)
  bytes-from (Pointer (Ctx o)) x len bytes word e = absurd (none-some bytes e)
  bytes-from (Pointer (MapRef i)) x len bytes word e = absurd (none-some bytes e)
  bytes-from (Pointer (Elem n o)) x len bytes word e = absurd (none-some bytes e)
  bytes-from (Pointer (Frame (negsuc n))) x len bytes word e = absurd (none-some bytes e)
  bytes-from (Pointer (Frame (pos at))) x len bytes word e =
      let f = inside (nat_le (at + len) FRAME_BYTES) refl e in
      let long : length v.frame ≡ FRAME_BYTES = (refines w s m sound r run v k).words.cells in
      let is : x - frame_base ≡ at = omega (arith, ints, word) in
      ap (λ at. take len (drop at v.frame)) is ∙ argument-bytes b run.state.frame v.frame
      (byte-stands w s m sound r run v k) len at bytes (omega (arith, f.0, long)) f.1
    where
      inside : (t : Bool) → nat_le (at + len) FRAME_BYTES ≡ t →
          (if t then bytes_at run.state.frame at len else None) ≡ Some bytes → (at + len ≤ FRAME_BYTES) ×
          (bytes_at run.state.frame at len ≡ Some bytes)
      inside true is h = (leb-true (at + len) FRAME_BYTES is, h)
      inside false is h = absurd (none-some bytes h)

  -- What a helper is called with.
  pub record CalledWith (map : ℕ) (key : List ℕ) : Type 0 where
    pub view : MapView
    pub there : slice_get w.maps map ≡ Some view
    pub bound : bound_number run.program v ≡ Some map
    pub shape : map_state.shape_of s.machine.store map ≡ Some view.shape
    pub key_read : frame_bytes run.state.frame view.shape.key_len (run.state.regs 2) ≡ Some key
    pub key_is : bytes_in v 2 view.shape.key_len ≡ key

  shape-there : (o : Option map_state.MapState) (shape : MapShape) → map_state.shape_in o ≡ Some shape → (state : map_state.MapState) × (o ≡ Some state)
  shape-there None shape e = absurd (none-some shape e)
  shape-there (Some state) shape e = (state, refl)

  pub called : (map : ℕ) (key : List ℕ) → map_argument run ≡ Some map → key_argument s.machine.store run map ≡ Some key → CalledWith map key
  called map key map_is key_is =
      let f = first-step (map_state.shape_of s.machine.store map) (λ shape. frame_bytes run.state.frame shape.key_len (run.state.regs 2)) key key_is in
      let st = shape-there (slice_get s.machine.store.maps map) f.0 f.1 in
      let within : map < length s.machine.store.maps = slice_get_within s.machine.store.maps map st.0 st.1 in
      let same : length w.maps ≡ length s.machine.store.maps = m.refines.maps.0 in
      let x = get-below w.maps map (omega (arith, within, same)) in
      let h = here w s m.refines map x.0 x.1 in
      let shape : map_state.shape_of s.machine.store map ≡ Some x.0.shape = ap map_state.shape_in h.there ∙
      ap (λ (z : map_state.MapState). Some z.shape) h.stands.state in
      let is : f.0 ≡ x.0.shape = same_Some f.0 x.0.shape (sym f.1 ∙ shape) in
      let read : frame_bytes run.state.frame x.0.shape.key_len (run.state.regs 2) ≡ Some key =
      ap (λ (z : MapShape). frame_bytes run.state.frame z.key_len (run.state.regs 2)) (sym is) ∙ f.2 in
      record {
        view = x.0;
        there = x.1;
        bound = map-number (run.state.regs 1) (word_in v 1) map (register-word w s m sound r run v k 1 (omega arith)) map_is;
        shape = shape;
        key_read = read;
        key_is = bytes-from (run.state.regs 2) (word_in v 2) x.0.shape.key_len key (register-word w s m sound r run v k 2 (omega arith)) read;
      }

  -- what the call does, by the arguments that it is made with
  called-with : (imm : ℤ) (helper : Helper) (map : ℕ) (view : MapView) → helper_of imm ≡ Some helper →
      bound_number run.program v ≡ Some map → slice_get w.maps map ≡ Some view →
      Does w s m sound r run v k (serves helper map (Some view) r v w) →
      Does w s m sound r run v k (insn_step (Call kinds.Helper imm) run.program r v w)
  called-with imm helper map view e bound there h =
      subst (λ o. Does w s m sound r run v k (helper_called o run.program r v w)) (sym e)
      (subst (λ o. Does w s m sound r run v k (helper_called_on helper o r v w)) (sym bound)
      (subst (λ o. Does w s m sound r run v k (serves helper map o r v w)) (sym there) h))

  -- a lookup
  found-stands : (map : ℕ) (view : MapView) (key : List ℕ) (found : Option ℕ) → slice_get w.maps map ≡ Some view →
      LooksUp s.machine.store map key found → WordIs b (found_value found) (found_word map (get view.index key))
  found-stands map view key (Some n) there l =
      let h = here w s m.refines map view there in
      let slot : ℕ = slice_index m.refines.slots n in
      let finds : get view.index key ≡ Some slot = h.stands.elements.finds key n l in
      let base : b n ≡ slot_base map slot = ap (λ o. slot_base (map_in o) slot) l.born ∙ ap (λ map. slot_base map slot) l.in_map in
      subst (λ o. WordIs b (Pointer (Elem n (pos 0))) (found_word map o)) (sym finds)
      (ap pos (sym base) ∙ (let z : pos (b n) ≡ pos (b n) +ℤ pos 0 = omega (arith, ints) in z))
  found-stands map view key None there absent = none (get view.index key) refl
    where
      none : (o : Option ℕ) → get view.index key ≡ o → WordIs b (Number 0) (found_word map o)
      none None e = refl
      none (Some i) e = let x = (here w s m.refines map view there).stands.elements.found key i e in absurd (absent x.0 x.1)

  lookup-simulates : (imm : ℤ) (ret : Value) → Known w s m sound r run v k (Call kinds.Helper imm) →
      helper_of imm ≡ Some Lookup → LookupStep s.machine.store run ret →
      Does w s m sound r run v k (insn_step (Call kinds.Helper imm) run.program r v w)
  lookup-simulates imm ret at e l =
      let c = called l.map l.key l.map_is l.key_is in
      let word : ℕ = found_word l.map (get c.view.index (bytes_in v 2 c.view.shape.key_len)) in
      let stands : WordIs b ret word = subst (λ u. WordIs b u word) (sym l.ret_is)
      (subst (λ key. WordIs b (found_value l.found) (found_word l.map (get c.view.index key))) (sym c.key_is)
      (found-stands l.map c.view l.key l.found c.there l.looked_up)) in
      called-with imm Lookup l.map c.view e c.bound c.there
      (moves-to w s m sound r run v k (Call kinds.Helper imm) (moves run (returns ret run.state)) (returned_view word v) Moved at
      (of_kind (Call kinds.Helper imm) s.machine.store (open_sections s.machine.runs) run Moved s.machine.store
      (moves run (returns ret run.state)) (
        ret,
        subst
            (λ o. HelperStep o s.machine.store (open_sections s.machine.runs) run ret s.machine.store) (sym e)
            (l, refl),
        refl,
        refl,
      ))
      (returned-refines m.refines.slots s.machine.store.elements s.machine.programs v run (refines w s m sound r run v k) ret word stands))

  -- a delete
  delete-simulates : (imm : ℤ) (ret : Value) (after : map_state.Store) →
      Known w s m sound r run v k (Call kinds.Helper imm) → helper_of imm ≡ Some Delete →
      DeleteStep s.machine.store (open_sections s.machine.runs) run ret after →
      Does w s m sound r run v k (insn_step (Call kinds.Helper imm) run.program r v w)
  delete-simulates imm ret after at e d =
      let c = called d.map d.key d.map_is d.key_is in
      let g = delete_half w s m d.map c.view d.key c.there in
      let mid : WorldView = with_map d.map (deleted c.view d.key).1 w in
      let word : ℕ = ret_word (deleted c.view d.key).0 in
      let later : Run = moves run (returns (Number word) run.state) in
      let h = half-refines w s m sound r run v k g.store mid g.refines refl in
      called-with imm Delete d.map c.view e c.bound c.there
      (subst (λ key. Does w s m sound r run v k (moves_on r (returned_view (ret_word (deleted c.view key).0) v)
      (with_map d.map (deleted c.view key).1 w))) (sym c.key_is)
      (halves_simulate w s m r g.store mid g.refines run later v (returned_view word v) Moved k.there k.shown
      (returned-refines g.refines.slots g.store.elements s.machine.programs v run h (Number word) word refl) g.oldest
      (record {
        run = run;
        there = k.there;
        going = k.going;
        new_store = g.store;
        new_run = later;
        step = (
          Call kinds.Helper imm,
          at,
          of_kind (Call kinds.Helper imm) s.machine.store (open_sections s.machine.runs) run Moved g.store later (
            Number word,
            subst (λ o. HelperStep o s.machine.store (open_sections s.machine.runs) run (Number word) g.store) (sym e) (record {
              map = d.map;
              key = d.key;
              outcome = (deleted c.view d.key).0;
              map_is = d.map_is;
              key_is = d.key_is;
              deleted = g.changes;
              ret_is = refl;
            }),
            refl,
            refl,
          ),
        );
        new_is = refl;
      })))

  -- an update
  update-simulates : (imm : ℤ) (ret : Value) (after : map_state.Store) →
      Known w s m sound r run v k (Call kinds.Helper imm) → helper_of imm ≡ Some Update →
      UpdateStep s.machine.store (open_sections s.machine.runs) run ret after →
      Does w s m sound r run v k (insn_step (Call kinds.Helper imm) run.program r v w)
  update-simulates imm ret after at e d =
      let c = called d.map d.key d.map_is d.key_is in
      let f = first-step (map_state.shape_of s.machine.store d.map)
      (λ shape. frame_bytes run.state.frame shape.value_len (run.state.regs 3)) d.value d.value_is in
      let is : f.0 ≡ c.view.shape = same_Some f.0 c.view.shape (sym f.1 ∙ c.shape) in
      let value_is : bytes_in v 3 c.view.shape.value_len ≡ d.value =
      bytes-from (run.state.regs 3) (word_in v 3) c.view.shape.value_len d.value
      (register-word w s m sound r run v k 3 (omega arith))
      (ap (λ (z : MapShape). frame_bytes run.state.frame z.value_len (run.state.regs 3)) (sym is) ∙ f.2) in
      let flags_are : word_in v 4 ≡ d.flags = number_word b (run.state.regs 4) d.flags (word_in v 4) d.flags_are
      (register-word w s m sound r run v k 4 (omega arith)) in
      let g = update_half w s m d.map c.view d.key d.value d.flags c.there in
      let done = updated c.view d.key d.value d.flags in
      let mid : WorldView = with_map d.map done.1 w in
      let word : ℕ = ret_word done.0 in
      let later : Run = moves run (returns (Number word) run.state) in
      let h = half-refines w s m sound r run v k g.store mid g.refines refl in
      let Goes : List ℕ → List ℕ → ℕ → Type 0 = λ key value flags.
      Does w s m sound r run v k (moves_on r (returned_view (ret_word (updated c.view key value flags).0) v)
      (with_map d.map (updated c.view key value flags).1 w)) in
      called-with imm Update d.map c.view e c.bound c.there
      (subst (λ key. Goes key (bytes_in v 3 c.view.shape.value_len) (word_in v 4)) (sym c.key_is)
      (subst (λ value. Goes d.key value (word_in v 4)) (sym value_is)
      (subst (λ flags. Goes d.key d.value flags) (sym flags_are)
      (halves_simulate w s m r g.store mid g.refines run later v (returned_view word v) Moved k.there k.shown
      (returned-refines g.refines.slots g.store.elements s.machine.programs v run h (Number word) word refl) g.oldest
      (record {
        run = run;
        there = k.there;
        going = k.going;
        new_store = g.store;
        new_run = later;
        step = (
          Call kinds.Helper imm,
          at,
          of_kind (Call kinds.Helper imm) s.machine.store (open_sections s.machine.runs) run Moved g.store later (
            Number word,
            subst (λ o. HelperStep o s.machine.store (open_sections s.machine.runs) run (Number word) g.store) (sym e) (record {
              map = d.map;
              key = d.key;
              value = d.value;
              flags = d.flags;
              outcome = done.0;
              map_is = d.map_is;
              key_is = d.key_is;
              value_is = d.value_is;
              flags_are = d.flags_are;
              updated = g.changes;
              ret_is = refl;
            }),
            refl,
            refl,
          ),
        );
        new_is = refl;
      })))))

  pub helper-simulates : (imm : ℤ) (ret : Value) (after : map_state.Store) (o : Option Helper) →
      Known w s m sound r run v k (Call kinds.Helper imm) → helper_of imm ≡ o →
      HelperStep o s.machine.store (open_sections s.machine.runs) run ret after →
      Does w s m sound r run v k (insn_step (Call kinds.Helper imm) run.program r v w)
  helper-simulates imm ret after (Some Lookup) at e h = lookup-simulates imm ret at e h.0
  helper-simulates imm ret after (Some Update) at e h = update-simulates imm ret after at e h
  helper-simulates imm ret after (Some Delete) at e h = delete-simulates imm ret after at e h
  helper-simulates imm ret after None at e h = absurd h
