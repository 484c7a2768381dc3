-- What the world serves is a word that the access can give.
use Rattle.bpf_model.proofs.Prelude.{◌≡◌, ◌∙◌, ℕ, ◌+◌, ◌^◌, ◌<◌, ◌≤◌, ◌⊎◌, List, Option, Some, None, length, inl, inr, refl, sym, ap, subst, arith, slice_get}
use Rattle.bpf_model.proofs.Prelude.{slice_index, option_map, ℤ, ◌+ℤ◌, get, length-map, none-some, same_Some, byte_count, number_at, region_offset}
use Rattle.bpf_model.proofs.Prelude.{unsigned_width, helper_of, kernel_function_of, accessible, is_reclaimed, AreBytes, Loaded, Run, environment, moves}
use Rattle.bpf_model.proofs.Prelude.{open_sections, InsnStep, Resumes, RunStep, StepsServed, RunRefines, CallHelper, ServesRequest, arguments_of, bound_shape}
use Rattle.bpf_model.proofs.Prelude.{resumed, signature_of, loaded_from, AreShapes, Schedule, insn_at, ◌>>=◌, MapView, RunView, WorldView, shapes_of, WordIs}
use Rattle.bpf_model.proofs.Prelude.{element_bases, most_map_slots, get-below, get-set_there}
use Rattle.machine.proofs.Prelude.{IsCodeOf, request_of, entered_view, resumed_view, kernel_request, MayGive}
use Rattle.model_laws.proofs.Prelude.{Lookup, Update, Delete, KernelFunction, ReadLock, ReadUnlock, Answer, Insn, Integer, MAX_MAPS, REGISTERS, Value}
use Rattle.model_laws.proofs.Prelude.{Nothing, Number, Pointer, Ctx, Frame, MapRef, Elem, SignedWidth, Width, StepsByKind, element_load, IsOfKind, Location}
use Rattle.model_laws.proofs.Prelude.{InContext, InFrame, AtMap, InSlot, Matches, Simulates}
use Rattle.verifier.proofs.Prelude.{Checked}
use Rattle.world.proofs.Prelude.{Request, called, called_at, called_on, element_number, CanServe, IsReply, maps_after}
use Rattle.world_laws.proofs.Prelude.{IsSlotWord, MapsAnswer, bytes_in, found_word, returned_view, Asks, AsksNothing, local_of, bytes_of, loaded_word}
use Rattle.world_laws.proofs.Prelude.{location_of, number_from, offset_at, moves_on, word_in, IsCall, full_reaction, AreRealPrograms, IsRunning, IsSound}
use Rattle.bpf_model.specs.declared.call.Helper.{Helper as HelperId}
use Rattle.bpf_model.specs.declared.event.Event.TheVariants as events
use Rattle.bpf_model.specs.declared.insn.CallKind.TheVariants as kinds
use Rattle.bpf_model.specs.declared.insn.Insn.TheVariants as insns
use Rattle.bpf_model.specs.MapState as map_state
use Rattle.bpf_model.specs.Step.{after as after_insn}
use Rattle.bpf_model.specs.View.{shape_of_view as shape}
use Rattle.model_laws.specs.Replies.{IsNumber}
use Rattle.model_laws.proofs.Computations.{first-step}
use Rattle.plan_laws.proofs.Coming.{Comes, Stands, Starting, Stepping, does-come}
use Rattle.plan_laws.proofs.Elements.{number_read, offset_some}
use Rattle.plan_laws.proofs.Reaching.{keeps_well, well_never_stuck}
use Rattle.model_laws.proofs.ViewedWorlds.{here}
use Rattle.world_laws.proofs.Bytes.{set_cond}
use Rattle.world_laws.proofs.Keeping.{full_keeps}
use Rattle.world_laws.proofs.Listed.{stays_listed}
use Rattle.world_laws.proofs.Loading.{accessible-known, element-word}
use Rattle.world_laws.proofs.Local.{asks_nothing}
use Rattle.world_laws.proofs.Own.{insn-real}
use Rattle.world_laws.proofs.Ready.{near, refines, register-word}
use Rattle.world_laws.proofs.Shown.{shown}
use Rattle.world_laws.proofs.Stepping.{full_simulates}
use Rattle.machine.specs.declared.request.Request.TheVariants as requests
use Rattle.machine.proofs.Laws.{same-program}
use Rattle.machine.proofs.Reacting.{reacts_by_insn}
use Rattle.machine.proofs.RunningStands.{running_answers}
use Rattle.world.proofs.Running.{running}
use Rattle.world.proofs.ServedSteps.{served_moves}
use Rattle.model_laws.proofs.Requests.{by_kind, replies_by_signature}

-- a number that bytes are
number-small : (value : List ℕ) (at width n : ℕ) → AreBytes value → at + width ≤ length value → number_at (slice_get value) at width ≡ Some n → n < 256 ^ width
number-small value at width n bytes inside e =
    let x = number_read (slice_get value) at width (λ k p q. (let y = get-below value k (omega (arith, q, inside)) in (y.0, y.1, bytes k y.0 y.1))) in
    let same : x.0 ≡ n = same_Some x.0 n (sym x.1 ∙ e) in
    subst (λ (k : ℕ). k < 256 ^ width) same x.2

-- a reply leaves the run without an exit value
entered-exit : (o : Option KernelFunction) (v : RunView) → (entered_view o v).exit ≡ v.exit
entered-exit (Some ReadLock) v = refl
entered-exit (Some ReadUnlock) v = refl
entered-exit None v = refl

resumed-exit : (i : Insn) (word : ℕ) (v : RunView) → (resumed_view i word v).exit ≡ v.exit
resumed-exit (insns.Load width dst src offset) word v = refl
resumed-exit (insns.LoadSigned width dst src offset) word v = refl
resumed-exit (insns.Store width dst offset src) word v = refl
resumed-exit (insns.Call kinds.Helper imm) word v = refl
resumed-exit (insns.Call kinds.Kernel imm) word v = entered-exit (kernel_function_of imm) v
resumed-exit i word v = refl

module _ (w : WorldView) (s : Schedule) (m : Matches w s) (sound : IsSound w s) (r : ℕ) (run : Run) (v : RunView) (k : IsRunning w s r run v) where
  -- a load
  element-small : (width : ℕ) (offset : ℤ) (base : Value) (n : ℕ) → element_load s.machine.store.elements width offset base ≡ Some n → n < 256 ^ width
  element-small width offset Nothing n e = absurd (none-some n e)
  element-small width offset (Number a) n e = absurd (none-some n e)
  element-small width offset (Pointer (Ctx o)) n e = absurd (none-some n e)
  element-small width offset (Pointer (Frame o)) n e = absurd (none-some n e)
  element-small width offset (Pointer (MapRef i)) n e = absurd (none-some n e)
  element-small width offset (Pointer (Elem x o)) n e =
      let f = first-step (accessible s.machine.store.elements x) (loaded_from width (o +ℤ offset)) n e in
      let g = first-step (region_offset (length f.0.value) width (o +ℤ offset)) (λ at. number_at (slice_get f.0.value) at width) n f.2 in
      let p = offset_some (length f.0.value) width (o +ℤ offset) g.0 g.1 in
      number-small f.0.value g.0 width n (sound.well.bytes x f.0 (accessible-known s.machine.store.elements x f.0 f.1).0) p.1 g.2

  found-small : (width x : ℕ) (offset : ℤ) (l : Location) → location_of x ≡ l →
      loaded_word w v width offset x < 256 ^ width → element_number w.maps width offset l < 256 ^ width
  found-small width x offset (InSlot map slot o) e h = subst (λ (l : Location). number_from (bytes_of w v l) width (offset_at l +ℤ offset) < 256 ^ width) e h
  found-small width x offset (InContext o) e h = omega (arith, h)
  found-small width x offset (InFrame o) e h = omega (arith, h)
  found-small width x offset (AtMap i) e h = omega (arith, h)

  loads-small : (width src : ℕ) (offset : ℤ) (n : ℕ) → src ≤ 10 →
      element_load s.machine.store.elements width offset (run.state.regs src) ≡ Some n →
      element_number w.maps width offset (location_of (word_in v src)) < 256 ^ width
  loads-small width src offset n l e =
      let is : loaded_word w v width offset (word_in v src) ≡ n =
      element-word w s m sound r run v k width (word_in v src) offset (run.state.regs src) n
      (register-word w s m sound r run v k src l) ((near w s m sound r run v k).regs_near src) e in
      found-small width (word_in v src) offset (location_of (word_in v src)) refl
      (subst (λ (x : ℕ). x < 256 ^ width) (sym is) (element-small width offset (run.state.regs src) n e))

  -- the step of a load that asks finds a number of its width
  load-given : (width : Width) (dst src : ℕ) (offset : ℤ) →
      insn_at run.program.code run.state.place ≡ Some (insns.Load width dst src offset) →
      local_of (insns.Load width dst src offset) v ≡ Asks
      → element_number w.maps (byte_count width) offset (location_of (word_in v src)) < 256 ^ byte_count width
  load-given width dst src offset known waits =
      let n = well_never_stuck s.machine sound.well r run k.there k.going in
      let same : n.3.0 ≡ insns.Load width dst src offset = same_Some n.3.0 (insns.Load width dst src offset) (sym n.3.1 ∙ known) in
      by n.0 n.1 n.2 (by_kind (insns.Load width dst src offset) s.machine.store (open_sections s.machine.runs) run n.0
      n.1 n.2 (subst (λ (i : Insn). InsnStep i s.machine.store (open_sections s.machine.runs) run n.0 n.1 n.2)
      same n.3.2))
    where
      by : (answer : Answer) (new : map_state.Store) (later : Run) →
          StepsByKind (insns.Load width dst src offset) s.machine.store (open_sections s.machine.runs) run answer new
          later → element_number w.maps (byte_count width) offset (location_of (word_in v src)) < 256 ^ byte_count
          width
      by answer new later (out, es, inl h, kept, ends) =
          absurd (subst AsksNothing waits (asks_nothing w s m sound r run v k (insns.Load width dst src offset) out
          known h.0))
      by answer new later (out, es, inr h, kept, ends) =
          loads-small (byte_count width) src offset h.0
          (insn-real w s m sound r run v k (insns.Load width dst src offset) known).1 h.1

  load-signed-given : (width : SignedWidth) (dst src : ℕ) (offset : ℤ) →
      insn_at run.program.code run.state.place ≡ Some (insns.LoadSigned width dst src offset) →
      local_of (insns.LoadSigned width dst src offset) v ≡ Asks
      → element_number w.maps (byte_count (unsigned_width width)) offset (location_of (word_in v src)) < 256 ^ byte_count (unsigned_width width)
  load-signed-given width dst src offset known waits =
      let n = well_never_stuck s.machine sound.well r run k.there k.going in
      let same : n.3.0 ≡ insns.LoadSigned width dst src offset = same_Some n.3.0 (insns.LoadSigned width dst src offset) (sym n.3.1 ∙ known) in
      by n.0 n.1 n.2 (by_kind (insns.LoadSigned width dst src offset) s.machine.store (open_sections s.machine.runs)
      run n.0 n.1 n.2 (subst (λ (i : Insn). InsnStep i s.machine.store (open_sections s.machine.runs) run n.0 n.1
      n.2) same n.3.2))
    where
      by : (answer : Answer) (new : map_state.Store) (later : Run) →
          StepsByKind (insns.LoadSigned width dst src offset) s.machine.store (open_sections s.machine.runs) run
          answer new later → element_number w.maps (byte_count (unsigned_width width)) offset
          (location_of (word_in v src)) < 256 ^ byte_count (unsigned_width width)
      by answer new later (out, es, inl h, kept, ends) =
          absurd (subst AsksNothing waits (asks_nothing w s m sound r run v k (insns.LoadSigned width dst src offset)
          out known h.0))
      by answer new later (out, es, inr h, kept, ends) =
          loads-small (byte_count (unsigned_width width)) src offset h.0
          (insn-real w s m sound r run v k (insns.LoadSigned width dst src offset) known).1 h.1

  -- a lookup
  found-slot : (map : ℕ) (view : MapView) (key : List ℕ) (o : Option ℕ) → slice_get w.maps map ≡ Some view →
      get view.index key ≡ o → (found_word map o ≡ 0) ⊎ IsSlotWord (found_word map o)
  found-slot map view key None there e = inl refl
  found-slot map view key (Some slot) there e =
      let h = here w s m.refines map view there in
      let f = h.stands.elements.found key slot e in
      let x = shown w s m.refines sound.well sound.limits sound.maps f.0 f.1.element f.1.born (ap is_reclaimed f.1.linked) in
      inr (record {
        map = map;
        slot = slot;
        few_maps = subst (λ (n : ℕ). n < MAX_MAPS) f.1.in_map x.few_maps;
        few_slots = subst (λ (n : ℕ). n < most_map_slots) f.2 x.few_slots;
        is = refl;
      })

  looked-up : (bound : List ℕ) (word : ℕ) → IsCall Lookup bound w.maps v → word ≡ (called Lookup bound v w.maps).0 → (word ≡ 0) ⊎ IsSlotWord word
  looked-up bound word can reply =
      let key = bytes_in v 2 can.view.shape.key_len in
      let is : word ≡ found_word can.map (get can.view.index key) =
      reply ∙ (ap (λ (o : Option ℕ). (called_on Lookup o v w.maps).0) can.named ∙
      ap (λ (o : Option MapView). (called_at Lookup can.map o v w.maps).0) can.there) in
      subst (λ (x : ℕ). (x ≡ 0) ⊎ IsSlotWord x) (sym is) (found-slot can.map can.view key (get can.view.index key) can.there refl)

  -- what the next world shows
  module _ (real : r < 2 ^ 64) (program : Loaded) (at : slice_get w.programs v.program ≡ Some program) (c : Checked)
      (of : IsCodeOf c (shapes_of w) program) where
    next : Simulates s (events.Step r) (full_reaction w (events.Step r))
    next = full_simulates w s m sound (events.Step r)

    next-sound : IsSound (full_reaction w (events.Step r)).1 next.next
    next-sound =
        let kept = full_keeps w (events.Step r) in
        let new = (full_reaction w (events.Step r)).1 in
        let answer = (full_reaction w (events.Step r)).0 in
        let count : length new.maps ≡ length w.maps = sym (length-map new.maps shape) ∙ (ap length kept.0 ∙ length-map w.maps shape) in
        let few : length w.maps ≤ MAX_MAPS = sound.maps in
        record {
          well = keeps_well s.machine next.next.machine (events.Step r) answer sound.well real next.does.step;
          listed = stays_listed s.machine next.next.machine (events.Step r) answer real next.does.step sound.listed;
          limits = subst AreShapes (sym kept.0) sound.limits;
          maps = omega (arith, count, few);
          programs = subst AreRealPrograms (sym kept.1) sound.programs;
        }

    abbrev after : WorldView
    after = (full_reaction w (events.Step r)).1

    -- the run of the next machine
    next-run : (insn : Insn) (request : Request) (word : ℕ) → insn_at program.code v.place ≡ Some insn →
        request_of insn v ≡ Some request → CanServe request program.maps w.maps v →
        IsReply request program.maps w.maps v word → (later : Run) × IsRunning after next.next r later (resumed_view insn word v)
    next-run insn request word at-place asked can reply =
        let new = resumed_view insn word v in
        let going : v.exit ≡ None = (refines w s m sound r run v k).words.exit ∙ k.going in
        let reacts : full_reaction w (events.Step r) ≡ moves_on r new (record w { maps = maps_after request program.maps v w.maps }) =
        reacts_by_insn w r v program insn k.shown going at at-place ∙ served_moves r v w program word insn request asked can reply in
        let seen : slice_get after.runs r ≡ Some (Some new) =
        ap (λ (y : Answer × WorldView). slice_get y.1.runs r) reacts ∙
        get-set_there w.runs r (Some v) (Some new) k.shown in
        running after next.next next.matches r new seen (resumed-exit insn word v ∙ going)

    known : (insn : Insn) → insn_at program.code v.place ≡ Some insn → insn_at run.program.code run.state.place ≡ Some insn
    known insn at-place = ap (λ (p : Loaded). insn_at p.code run.state.place)
        (same-program w s m sound r run v k program at) ∙
        (ap (insn_at program.code) (sym (refines w s m sound r run v k).words.place) ∙ at-place)

    -- the machine's step of a call whose result is a number
    module _ (imm : ℤ) (helper : HelperId) (word : ℕ) (at-place : insn_at program.code v.place ≡ Some (insns.Call kinds.Helper imm))
        (is : helper_of imm ≡ Some helper) (result : (signature_of helper).result ≡ Integer) (later : Run)
        (later_is : IsRunning after next.next r later (returned_view word v)) where
      abbrev call : Insn
      call = insns.Call kinds.Helper imm

      abbrev Goal : Type 0
      Goal = MapsAnswer c.program c.shapes c.ctx_len v word

      later-refines : RunRefines next.matches.refines.slots next.next.machine.store.elements next.next.machine.programs
          (returned_view word v) later
      later-refines = refines after next.next next.matches next-sound r later (returned_view word v) later_is

      moved-once : later.moved ≡ run.moved + 1
      moved-once = sym later-refines.words.moved ∙ ap (λ n. n + 1) (refines w s m sound r run v k).words.moved

      -- r0 has the word, and it is the number
      word-in : slice_index (returned_view word v).registers 0 ≡ word
      word-in =
          let count : length v.registers ≡ REGISTERS = (refines w s m sound r run v k).words.register_count in
          set_cond v.registers 0 word 0 (omega (arith, count))

      same-number : (n : ℕ) → later.state.regs 0 ≡ Number n → word ≡ n
      same-number n e =
          let some : 0 < REGISTERS = omega arith in
          sym word-in ∙ subst (λ u. WordIs (element_bases next.matches.refines.slots next.next.machine.store.elements) u
          (slice_index (returned_view word v).registers 0)) e (later-refines.words.registers 0 some)

      numbered : (reply : Value) → IsOfKind (signature_of helper).result reply → IsNumber reply
      numbered reply h = subst (λ kind. IsOfKind kind reply) result h

      by-served : (answer : Answer) (new_store : map_state.Store) →
          StepsServed call s.machine.store (open_sections s.machine.runs) run answer new_store later → Goal
      by-served answer new_store step =
          let f = first-step (helper_of imm) (λ h. arguments_of (signature_of h).arguments (bound_shape s.machine.store run.program.maps) run.state 1
          >>= λ arguments. Some (CallHelper h arguments)) step.request step.asked in
          let g = first-step (arguments_of (signature_of f.0).arguments (bound_shape s.machine.store run.program.maps) run.state 1)
          (λ arguments. Some (CallHelper f.0 arguments)) step.request f.2 in
          let same : f.0 ≡ helper = same_Some f.0 helper (sym f.1 ∙ is) in
          let request : step.request ≡ CallHelper helper g.0 = sym (same_Some _ step.request g.2) ∙ ap (λ h. CallHelper h g.0) same in
          let served = subst (λ q. ServesRequest run.program.maps q s.machine.store (open_sections s.machine.runs) step.reply new_store) request step.served in
          let resumes : later ≡ moves run (resumed call step.reply run.state) = subst (λ q. Resumes q call step.reply run later) request step.resumes in
          let n = numbered step.reply
          (replies_by_signature helper g.0 run.program.maps s.machine.store (open_sections s.machine.runs) step.reply new_store served) in
          let word-is : word ≡ n.0 = same-number n.0 (ap (λ (x : Run). x.state.regs 0) resumes ∙ n.1) in
          running_answers w s m sound r run v k program at c of imm at-place answer new_store later step word
          (n.1 ∙ ap Number (sym word-is))

      by-step : (i : Insn) (answer : Answer) (new_store : map_state.Store) → i ≡ call →
          InsnStep i s.machine.store (open_sections s.machine.runs) run answer new_store later → Goal
      by-step i answer new_store same (inl h) =
          absurd (none-some h.0 (subst (λ j. after_insn j (environment run) run.state ≡ Some h.0) same h.1))
      by-step i answer new_store same (inr h) = by-served answer new_store
          (subst (λ j. StepsServed j s.machine.store (open_sections s.machine.runs) run answer new_store later) same h)

      by-run-step : (old : Run) (answer : Answer) → old ≡ run →
          RunStep s.machine.store (open_sections s.machine.runs) old answer next.next.machine.store later → Goal
      by-run-step old answer same h =
          let g = subst (λ (x : Run). RunStep s.machine.store (open_sections s.machine.runs) x answer next.next.machine.store later) same h in
          by-step g.0 answer next.next.machine.store (same_Some g.0 call (sym g.1 ∙ known call at-place)) g.2

      by-origin : Comes s.machine next.next.machine r later → Goal
      by-origin (Stands there) =
          let same : later.moved ≡ run.moved = ap (λ (x : Run). x.moved) (same_Some later run (sym there ∙ k.there)) in
          let moved : later.moved ≡ run.moved + 1 = moved-once in
          absurd (omega (arith, same, moved))
      by-origin (Starting f) =
          let none : 0 ≡ later.moved = ap (λ (x : Run). x.moved) f.is in
          let moved : later.moved ≡ run.moved + 1 = moved-once in
          absurd (omega (arith, none, moved))
      by-origin (Stepping g) = by-run-step g.old g.answer (same_Some g.old run (sym g.there ∙ k.there)) g.step

      number-given : Goal
      number-given = by-origin (does-come s.machine next.next.machine (events.Step r) (full_reaction w (events.Step r)).0 real
          next.does.step r later later_is.there)

    abbrev Gives : Request → ℕ → Type 0
    Gives request word = CanServe request program.maps w.maps v → IsReply request program.maps w.maps v word → MayGive c v request word

    number-results : (imm : ℤ) (helper : HelperId) (word : ℕ) → insn_at program.code v.place ≡ Some (insns.Call kinds.Helper imm) →
        helper_of imm ≡ Some helper → (signature_of helper).result ≡ Integer → CanServe (requests.Call helper) program.maps w.maps v →
        IsReply (requests.Call helper) program.maps w.maps v word → MapsAnswer c.program c.shapes c.ctx_len v word
    number-results imm helper word at-place is result can reply =
        let y = next-run (insns.Call kinds.Helper imm) (requests.Call helper) word at-place (ap (option_map requests.Call) is) can reply in
        number-given imm helper word at-place is result y.0 y.1

    helper-given : (imm : ℤ) (helper : HelperId) (word : ℕ) → insn_at program.code v.place ≡ Some (insns.Call kinds.Helper imm) →
        helper_of imm ≡ Some helper → Gives (requests.Call helper) word
    helper-given imm Lookup word at-place is can reply = looked-up program.maps word can reply
    helper-given imm Update word at-place is can reply = number-results imm Update word at-place is refl can reply
    helper-given imm Delete word at-place is can reply = number-results imm Delete word at-place is refl can reply

    call-given : (imm : ℤ) (o : Option HelperId) (request : Request) (word : ℕ) →
        insn_at program.code v.place ≡ Some (insns.Call kinds.Helper imm) → helper_of imm ≡ o →
        option_map requests.Call o ≡ Some request → Gives request word
    call-given imm None request word at-place is e = absurd (none-some request e)
    call-given imm (Some helper) request word at-place is e =
        let same : requests.Call helper ≡ request = same_Some (requests.Call helper) request e in
        subst (λ (a : Request). Gives a word) same (helper-given imm helper word at-place is)

    section-given : (f : KernelFunction) (word : ℕ) → Gives (kernel_request f) word
    section-given ReadLock word can reply = tt
    section-given ReadUnlock word can reply = tt

    kernel-given : (o : Option KernelFunction) (request : Request) (word : ℕ) → option_map kernel_request o ≡ Some request → Gives request word
    kernel-given None request word e = absurd (none-some request e)
    kernel-given (Some f) request word e = subst (λ (a : Request). Gives a word) (same_Some (kernel_request f) request e) (section-given f word)

    pub may_give : (insn : Insn) (request : Request) (word : ℕ) → insn_at program.code v.place ≡ Some insn →
        local_of insn v ≡ Asks → request_of insn v ≡ Some request → Gives request word
    may_give (insns.Load width dst src offset) request word at-place waits asked =
        subst (λ (a : Request). Gives a word) (same_Some _ request asked)
        (λ can reply. subst (λ (x : ℕ). x < 256 ^ byte_count width) (sym reply)
        (load-given width dst src offset (known (insns.Load width dst src offset) at-place) waits))
    may_give (insns.LoadSigned width dst src offset) request word at-place waits asked =
        subst (λ (a : Request). Gives a word) (same_Some _ request asked)
        (λ can reply. subst (λ (x : ℕ). x < 256 ^ byte_count (unsigned_width width)) (sym reply)
        (load-signed-given width dst src offset (known (insns.LoadSigned width dst src offset) at-place) waits))
    may_give (insns.Store width dst offset src) request word at-place waits asked =
        subst (λ (a : Request). Gives a word) (same_Some _ request asked) (λ can reply. tt)
    may_give (insns.Call kinds.Helper imm) request word at-place waits asked =
        call-given imm (helper_of imm) request word at-place refl asked
    may_give (insns.Call kinds.Kernel imm) request word at-place waits asked = kernel-given (kernel_function_of imm) request word asked
    may_give insn request word at-place waits asked = absurd (none-some request asked)
