-- What loads, stores and helpers of a running run reach is there.
use Rattle.bpf_model.proofs.Prelude.{◌≡◌, ℕ, ◌+◌, ◌<◌, ◌≤◌, refl, sym, ap, subst, ◌∙◌, arith, Option, Some, None, List, [], ◌∷◌, map, length, inl, inr, Bool}
use Rattle.bpf_model.proofs.Prelude.{true, false, slice_get, slice_index, ℤ, pos, negsuc, ◌+ℤ◌, nat_le, ◌&&◌, ◌==◌, if◌then◌else◌, get, ints, cases_eq}
use Rattle.bpf_model.proofs.Prelude.{eq-eqb, leb-true, none-some, same_Some, byte_count, unsigned_width, region_offset, number_at, loaded_signed, helper_of}
use Rattle.bpf_model.proofs.Prelude.{kernel_function_of, Element, Life, Linked, Unlinked, Reclaimed, accessible, is_reclaimed, is_unlinked, read, Loaded, Run}
use Rattle.bpf_model.proofs.Prelude.{environment, open_sections, InsnStep, loaded_from, frame_bytes, bytes_at, operand_value, times, Queues, Schedule}
use Rattle.bpf_model.proofs.Prelude.{load_from, sets, insn_at, ◌>>=◌, number, RunView, WorldView, key_in, WordIs, signature_of}
use Rattle.model_laws.proofs.Prelude.{FRAME_BYTES, MAX_DEPTH, Helper, Lookup, Update, Delete, KernelFunction, ReadLock, ReadUnlock, Answer, MapShape, Insn}
use Rattle.model_laws.proofs.Prelude.{Load, LoadSigned, Store, Call, Operand, Width, SignedWidth, Value, Nothing, Number, Pointer, Ctx, Frame, MapRef, Elem}
use Rattle.model_laws.proofs.Prelude.{StepsByKind, HelperStep, KernelStep, value_argument, element_load, IsNear, Location, queued_in, Matches}
use Rattle.world_laws.proofs.Prelude.{location_of, word_in, IsInside, Reaches, IsWritable, IsInFrame, IsCall, IsAllowed, IsSound, IsRunning}
use Rattle.plan_laws.proofs.Elements.{offset_some}
use Rattle.bpf_model.specs.declared.insn.CallKind.TheVariants as kinds
use Rattle.bpf_model.specs.MapState as map_state
use Rattle.model_laws.proofs.Counting.{times-first, times-other, times-rest}
use Rattle.plan_laws.proofs.Reaching.{well_never_stuck}
use Rattle.model_laws.proofs.ViewedWorlds.{here}
use Rattle.world_laws.specs.Reaching.{HasElement, AreInFrame, HasInsn}
use Rattle.world_laws.proofs.Places.{context-location, frame-location}
use Rattle.world_laws.proofs.Shown.{Shown}
use Rattle.world_laws.proofs.Ready.{bases, refines, near, register-word}
use Rattle.world_laws.proofs.Own.{Known, insn-real}
use Rattle.world_laws.proofs.Loading.{accessible-known, element-located}
use Rattle.world_laws.proofs.Calling.{CalledWith, called}
use Rattle.world_laws.proofs.Storing.{element-known}
use Rattle.world_laws.proofs.OwnMemory.{store-known}
use Rattle.model_laws.proofs.Computations.{first-step}
use Rattle.model_laws.proofs.Requests.{by_kind}

times-image : (f : ℕ → ℕ) (n : ℕ) (xs : List ℕ) → times n xs ≤ times (f n) (map f xs)
times-image f n [] = omega arith
times-image f n (y ∷ xs) =
    let more = times-image f n xs in
    elim (cases_eq y n) [
      | inl e ↦
          let a : times n (y ∷ xs) ≡ 1 + times n xs = times-first n y xs e in
          let b : times (f n) (f y ∷ map f xs) ≡ 1 + times (f n) (map f xs) = times-first (f n) (f y) (map f xs) (ap f e) in
          omega (arith, more)
      | inr ne ↦
          let a : times n (y ∷ xs) ≡ times n xs = times-other n y xs ne in
          let b : times (f n) (map f xs) ≤ times (f n) (f y ∷ map f xs) = times-rest (f n) (f y) (map f xs) in
          omega (arith, more)
    ]

module _ (w : WorldView) (s : Schedule) (m : Matches w s) where
  -- an element that is kept occupies its map slot
  occupied : (n : ℕ) (e : Element) (life : Life) → e.life ≡ life → is_reclaimed life ≡ false →
      slice_get s.machine.store.elements n ≡ Some e → (x : Shown w s m.refines n e) →
      HasElement x.view (slice_index m.refines.slots n)
  occupied n e Linked is kept born x =
      let slot : ℕ = slice_index m.refines.slots n in
      let h = here w s m.refines e.map x.view x.there in
      let key : key_in (slice_get x.view.slots slot) ≡ e.key = ap key_in x.slot in
      inl (ap (get x.view.index) key ∙ h.stands.elements.finds e.key n (record { element = e; born = born; linked = is; in_map = refl; under = refl }))
  occupied n e (Unlinked since) is kept born x =
      let f : ℕ → ℕ = slice_index m.refines.slots in
      let h = here w s m.refines e.map x.view x.there in
      let once : times n h.lists.next + times n h.lists.waiting + times n h.lists.ready ≡ 1 =
      m.scheduled.queued e.map n h.lists h.listed ∙ (ap (queued_in e.map) born ∙
      (ap (λ (l : Life). if is_unlinked l && (e.map == e.map) then 1 else 0) is ∙
      ap (λ t. if t then 1 else 0) (eq-eqb e.map e.map refl))) in
      let a = times-image f n h.lists.next in
      let b = times-image f n h.lists.waiting in
      let c = times-image f n h.lists.ready in
      let p : times (f n) x.view.next ≡ times (f n) (map f h.lists.next) = ap (λ (q : Queues). times (f n) q.next) h.stands.lists in
      let q : times (f n) x.view.waiting ≡ times (f n) (map f h.lists.waiting) = ap (λ (q : Queues). times (f n) q.waiting) h.stands.lists in
      let r : times (f n) x.view.ready ≡ times (f n) (map f h.lists.ready) = ap (λ (q : Queues). times (f n) q.ready) h.stands.lists in
      inr (omega (arith, once, a, b, c, p, q, r))
  occupied n e Reclaimed is kept born x = absurd (cc)

  -- and its value has the length of the map's shape
  value-long : (n : ℕ) (e : Element) → slice_get s.machine.store.elements n ≡ Some e → (x : Shown w s m.refines n e) → length e.value ≡ x.view.shape.value_len
  value-long n e born x =
      let l = m.scheduled.consistent.lengths n e born in
      let h = here w s m.refines e.map x.view x.there in
      l.3 ∙ ap (λ (z : map_state.MapState). z.shape.value_len) (same_Some l.0 h.state (sym l.1 ∙ h.there) ∙ h.stands.state)

module _ (w : WorldView) (s : Schedule) (m : Matches w s) (sound : IsSound w s) (r : ℕ) (run : Run) (v : RunView) (k : IsRunning w s r run v) where
  inside-of : (len width at : ℕ) (z : ℤ) → region_offset len width z ≡ Some at → IsInside len width z
  inside-of len width at z e = let p = offset_some len width z at e in record { at = at; at_is = p.0; inside = p.1 }

  slot-reaches : (width n x at : ℕ) (o offset : ℤ) (e : Element) → accessible s.machine.store.elements n ≡ Some e →
      region_offset (length e.value) width (o +ℤ offset) ≡ Some at →
      WordIs (bases w s m sound r run v k) (Pointer (Elem n o)) x → IsNear (Pointer (Elem n o)) →
      Reaches w v width offset (location_of x) × IsWritable (location_of x)
  slot-reaches width n x at o offset e access inside word close =
      let p = element-located w s m sound r run v k n x o e access word close in
      let a = accessible-known s.machine.store.elements n e access in
      let goal : Location → Type 0 = λ l. Reaches w v width offset l × IsWritable l in
      subst goal (sym p.1) (
        record {
          view = p.0.view;
          there = p.0.there;
          occupied = occupied w s m n e e.life refl a.1 a.0 p.0;
          inside = subst (λ len. IsInside len width (o +ℤ offset)) (value-long w s m n e a.0 p.0) (inside-of (length e.value) width at (o +ℤ offset) inside);
        },
        tt,
      )

  load-reaches : (width x : ℕ) (offset : ℤ) (base u : Value) → WordIs (bases w s m sound r run v k) base x →
      IsNear base → load_from (environment run) run.state width offset base ≡ Some u →
      Reaches w v width offset (location_of x)
  load-reaches width x offset Nothing u word n e = absurd (none-some u e)
  load-reaches width x offset (Number a) u word n e = absurd (none-some u e)
  load-reaches width x offset (Pointer (MapRef i)) u word n e = absurd (none-some u e)
  load-reaches width x offset (Pointer (Elem b o)) u word n e = absurd (none-some u e)
  load-reaches width x offset (Pointer (Ctx o)) u word n e =
      let f = first-step (region_offset (length run.context) width (o +ℤ offset))
      (λ at. number_at (slice_get run.context) at width >>= λ n. Some (Number n)) u e in
      subst (Reaches w v width offset) (sym (context-location x o n word))
      (subst (λ (c : List ℕ). IsInside (length c) width (o +ℤ offset))
      (sym (refines w s m sound r run v k).words.context) (inside-of (length run.context) width f.0 (o +ℤ offset) f.1))
  load-reaches width x offset (Pointer (Frame o)) u word n e =
      let f = first-step (region_offset FRAME_BYTES width (o +ℤ offset)) (λ at. read run.state.frame at width) u e in
      subst (Reaches w v width offset) (sym (frame-location x o n word)) (inside-of FRAME_BYTES width f.0 (o +ℤ offset) f.1)

  element-reaches : (width x n : ℕ) (offset : ℤ) (base : Value) → WordIs (bases w s m sound r run v k) base x →
      IsNear base → element_load s.machine.store.elements width offset base ≡ Some n →
      Reaches w v width offset (location_of x)
  element-reaches width x n offset Nothing word close e = absurd (none-some n e)
  element-reaches width x n offset (Number a) word close e = absurd (none-some n e)
  element-reaches width x n offset (Pointer (Ctx o)) word close e = absurd (none-some n e)
  element-reaches width x n offset (Pointer (Frame o)) word close e = absurd (none-some n e)
  element-reaches width x n offset (Pointer (MapRef i)) word close e = absurd (none-some n e)
  element-reaches width x n offset (Pointer (Elem b o)) word close e =
      let f = first-step (accessible s.machine.store.elements b) (loaded_from width (o +ℤ offset)) n e in
      let g = first-step (region_offset (length f.0.value) width (o +ℤ offset)) (λ at. number_at (slice_get f.0.value) at width) n f.2 in
      (slot-reaches width b x g.0 o offset f.0 f.1 g.1 word close).0

  -- the instruction at hand has a step
  stepping : (i : Insn) → Known w s m sound r run v k i → (answer : Answer) × (new : map_state.Store) × (later : Run)
      × StepsByKind i s.machine.store (open_sections s.machine.runs) run answer new later
  stepping i here =
      let n = well_never_stuck s.machine sound.well r run k.there k.going in (
        n.0,
        n.1,
        n.2,
        by_kind i s.machine.store (open_sections s.machine.runs) run n.0 n.1 n.2
            (subst (λ j. InsnStep j s.machine.store (open_sections s.machine.runs) run n.0 n.1 n.2)
            (same_Some n.3.0 i (sym n.3.1 ∙ here)) n.3.2),
      )

  pub load_reaches : (width : Width) (dst src : ℕ) (offset : ℤ) →
      Known w s m sound r run v k (Load width dst src offset) →
      Reaches w v (byte_count width) offset (location_of (word_in v src))
  load_reaches width dst src offset here = by (stepping (Load width dst src offset) here).3
    where
      l : src ≤ 10
      l = (insn-real w s m sound r run v k (Load width dst src offset) here).1

      by : {answer : Answer} {new : map_state.Store} {later : Run} →
          StepsByKind (Load width dst src offset) s.machine.store (open_sections s.machine.runs) run answer new later
          → Reaches w v (byte_count width) offset (location_of (word_in v src))
      by (out, es, inl h, kept, ends) =
          let f = first-step (load_from (environment run) run.state (byte_count width) offset (run.state.regs src)) (λ u. sets 1 dst u run.state) out h.0 in
          load-reaches (byte_count width) (word_in v src) offset (run.state.regs src) f.0
          (register-word w s m sound r run v k src l) ((near w s m sound r run v k).regs_near src) f.1
      by (out, es, inr h, kept, ends) = element-reaches (byte_count width) (word_in v src) h.0 offset
          (run.state.regs src) (register-word w s m sound r run v k src l)
          ((near w s m sound r run v k).regs_near src) h.1

  pub load_signed_reaches : (width : SignedWidth) (dst src : ℕ) (offset : ℤ) →
      Known w s m sound r run v k (LoadSigned width dst src offset) →
      Reaches w v (byte_count (unsigned_width width)) offset (location_of (word_in v src))
  load_signed_reaches width dst src offset here = by (stepping (LoadSigned width dst src offset) here).3
    where
      l : src ≤ 10
      l = (insn-real w s m sound r run v k (LoadSigned width dst src offset) here).1

      by : {answer : Answer} {new : map_state.Store} {later : Run} →
          StepsByKind (LoadSigned width dst src offset) s.machine.store (open_sections s.machine.runs) run answer new
          later → Reaches w v (byte_count (unsigned_width width)) offset (location_of (word_in v src))
      by (out, es, inl h, kept, ends) =
          let f = first-step (load_from (environment run) run.state (byte_count (unsigned_width width)) offset
          (run.state.regs src)) (λ u. number u >>= λ n. sets 1 dst (Number (loaded_signed width n)) run.state) out
          h.0 in
          load-reaches (byte_count (unsigned_width width)) (word_in v src) offset (run.state.regs src) f.0
          (register-word w s m sound r run v k src l) ((near w s m sound r run v k).regs_near src) f.1
      by (out, es, inr h, kept, ends) = element-reaches (byte_count (unsigned_width width)) (word_in v src) h.0 offset
          (run.state.regs src) (register-word w s m sound r run v k src l)
          ((near w s m sound r run v k).regs_near src) h.1

  pub store_reaches : (width : Width) (dst : ℕ) (offset : ℤ) (src : Operand) →
      Known w s m sound r run v k (Store width dst offset src) →
      Reaches w v (byte_count width) offset (location_of (word_in v dst)) × IsWritable (location_of (word_in v dst))
  store_reaches width dst offset src here = by (stepping (Store width dst offset src) here).3
    where
      l : dst ≤ 10
      l = (insn-real w s m sound r run v k (Store width dst offset src) here).0

      word-is : (base : Value) → run.state.regs dst ≡ base → WordIs (bases w s m sound r run v k) base (word_in v dst)
      word-is base e = subst (λ u. WordIs (bases w s m sound r run v k) u (word_in v dst)) e (register-word w s m sound r run v k dst l)

      close : (base : Value) → run.state.regs dst ≡ base → IsNear base
      close base e = subst IsNear e ((near w s m sound r run v k).regs_near dst)

      by : {answer : Answer} {new : map_state.Store} {later : Run} →
          StepsByKind (Store width dst offset src) s.machine.store (open_sections s.machine.runs) run answer new later
          → Reaches w v (byte_count width) offset (location_of (word_in v dst)) ×
          IsWritable (location_of (word_in v dst))
      by (out, es, inl h, kept, ends) =
          let f = store-known run.state (byte_count width) offset (operand_value src run.state.regs) (run.state.regs dst) out h.0 in
          let goal : Location → Type 0 = λ l. Reaches w v (byte_count width) offset l × IsWritable l in
          subst goal (sym (frame-location (word_in v dst) f.o (close (Pointer (Frame f.o)) f.base_is)
          (word-is (Pointer (Frame f.o)) f.base_is)))
          (record { at = f.at; at_is = f.at_is; inside = f.inside }, tt)
      by (out, es, inr h, kept, ends) =
          let f = element-known s.machine.store.elements (byte_count width) offset (operand_value src run.state.regs) (run.state.regs dst) es h.0 in
          slot-reaches (byte_count width) f.there.n (word_in v dst) f.at f.there.o offset f.element f.access f.inside
          (word-is (Pointer (Elem f.there.n f.there.o)) f.there.base_is)
          (close (Pointer (Elem f.there.n f.there.o)) f.there.base_is)

  -- the arguments of a helper
  in-frame : (u : Value) (x len : ℕ) (bytes : List ℕ) → WordIs (bases w s m sound r run v k) u x →
      frame_bytes run.state.frame len u ≡ Some bytes → IsInFrame x len
  in-frame Nothing x len bytes word e = absurd (none-some bytes e)
  in-frame (Number n) x len bytes word e = absurd (none-some bytes e)
  in-frame (Pointer (Ctx o)) x len bytes word e = absurd (none-some bytes e)
  in-frame (Pointer (MapRef i)) x len bytes word e = absurd (none-some bytes e)
  in-frame (Pointer (Elem n o)) x len bytes word e = absurd (none-some bytes e)
  in-frame (Pointer (Frame (negsuc n))) x len bytes word e = absurd (none-some bytes e)
  in-frame (Pointer (Frame (pos at))) x len bytes word e = inside (nat_le (at + len) FRAME_BYTES) refl e
    where
      inside : (t : Bool) → nat_le (at + len) FRAME_BYTES ≡ t → (if t then bytes_at run.state.frame at len else None) ≡ Some bytes → IsInFrame x len
      inside true is h = let l : at + len ≤ FRAME_BYTES =
          leb-true (at + len) FRAME_BYTES is in record {
            least = omega (arith, ints, word);
            inside =
                omega (arith, ints, word, l);
          }
      inside false is h = absurd (none-some bytes h)

  key-inside : (map : ℕ) (key : List ℕ) (c : CalledWith w s m sound r run v k map key) → IsInFrame (word_in v 2) c.view.shape.key_len
  key-inside map key c = in-frame (run.state.regs 2) (word_in v 2) c.view.shape.key_len key (register-word w s m sound r run v k 2 (omega arith)) c.key_read

  is-call : (helper : Helper) (map : ℕ) (key : List ℕ) (c : CalledWith w s m sound r run v k map key) →
      AreInFrame (signature_of helper).arguments c.view v 1 → IsCall helper run.program.maps w.maps v
  is-call helper map key c arguments =
      record { map = map; view = c.view; named = c.bound; there = c.there; arguments = arguments; frame = (refines w s m sound r run v k).words.cells }

  value-inside : (map : ℕ) (value : List ℕ) (shape : MapShape) → map_state.shape_of s.machine.store map ≡ Some shape →
      value_argument s.machine.store run map ≡ Some value → IsInFrame (word_in v 3) shape.value_len
  value-inside map value shape is e =
      let f = first-step (map_state.shape_of s.machine.store map) (λ shape. frame_bytes run.state.frame shape.value_len (run.state.regs 3)) value e in
      let same : f.0 ≡ shape = same_Some f.0 shape (sym f.1 ∙ is) in
      in-frame (run.state.regs 3) (word_in v 3) shape.value_len value
      (register-word w s m sound r run v k 3 (omega arith))
      (ap (λ (z : MapShape). frame_bytes run.state.frame z.value_len (run.state.regs 3)) (sym same) ∙ f.2)

  abbrev Served : ℤ → Type 0
  Served imm = (helper : Helper) × (helper_of imm ≡ Some helper) × IsCall helper run.program.maps w.maps v

  served : (imm : ℤ) (o : Option Helper) (ret : Value) (new : map_state.Store) → helper_of imm ≡ o →
      HelperStep o s.machine.store (open_sections s.machine.runs) run ret new → Served imm
  served imm (Some Lookup) ret new e h = let c = called w s m sound r run v k h.0.map h.0.key h.0.map_is
      h.0.key_is in (Lookup, e, is-call Lookup h.0.map h.0.key c (tt, (key-inside h.0.map h.0.key c, tt)))
  served imm (Some Delete) ret new e h = let c = called w s m sound r run v k h.map h.key h.map_is
      h.key_is in (Delete, e, is-call Delete h.map h.key c (tt, (key-inside h.map h.key c, tt)))
  served imm (Some Update) ret new e h = let c = called w s m sound r run v k h.map h.key h.map_is
      h.key_is in (
        Update,
        e,
        is-call Update h.map h.key c
            (tt, (key-inside h.map h.key c, (value-inside h.map h.value c.view.shape c.shape h.value_is, (tt, tt)))),
      )
  served imm None ret new e h = absurd h

  pub helper_arguments : (imm : ℤ) → Known w s m sound r run v k (Call kinds.Helper imm) → Served imm
  helper_arguments imm here = let n = stepping (Call kinds.Helper imm) here in served imm (helper_of imm) n.3.0 n.1 refl n.3.1

  -- a lock and an unlock
  abbrev Allowed : ℤ → Type 0
  Allowed imm = (f : KernelFunction) × (kernel_function_of imm ≡ Some f) × IsAllowed f v.depth

  allowed : (imm : ℤ) (o : Option KernelFunction) (later : Run) → kernel_function_of imm ≡ o → KernelStep o run later → Allowed imm
  allowed imm (Some ReadLock) later e h = (ReadLock, e, subst (λ d. d < MAX_DEPTH) (sym (refines w s m sound r run v k).words.depth) h.0)
  allowed imm (Some ReadUnlock) later e h = (ReadUnlock, e, subst (λ d. 0 < d) (sym (refines w s m sound r run v k).words.depth) h.0)
  allowed imm None later e h = absurd h

  pub kernel_call_allowed : (imm : ℤ) → Known w s m sound r run v k (Call kinds.Kernel imm) → Allowed imm
  kernel_call_allowed imm here = let n = stepping (Call kinds.Kernel imm) here in allowed imm (kernel_function_of imm) n.2 refl n.3.0

  -- the instruction
  pub insn_there : HasInsn w v
  insn_there =
      let n = well_never_stuck s.machine sound.well r run k.there k.going in
      let h = refines w s m sound r run v k in
      record {
        program = run.program;
        insn = n.3.0;
        loaded = ap (λ (ps : List Loaded). slice_get ps v.program) m.refines.programs ∙ h.program;
        here = ap (insn_at run.program.code) h.words.place ∙ n.3.1;
      }
