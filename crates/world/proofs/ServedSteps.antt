-- A world's step of a run is what the run does by itself, or what is served to it and how it goes on.
use Rattle.bpf_model.proofs.Prelude.{◌≡◌, ◌∙◌, ℕ, ◌+◌, ◌-◌, refl, sym, ap, subst, List, Option, Some, None, Bool, true, false, slice_get, slice_set, nat_lt}
use Rattle.bpf_model.proofs.Prelude.{map, option_map, ℤ, pos, negsuc, ◌+ℤ◌, map-set, none-some, same_Some, get_or_from_slice_get, byte_count, unsigned_width}
use Rattle.bpf_model.proofs.Prelude.{compares, loaded_signed, helper_of, kernel_function_of, Loaded, still_open, MapView, RunView, WorldView, set-same}
use Rattle.element_store.proofs.Prelude.{GraceState, depth_at, is_open_depth, opened_in}
use Rattle.machine.proofs.Prelude.{IsLocalStep, request_of, kernel_request, entered_view, resumed_view}
use Rattle.model_laws.proofs.Prelude.{Lookup, Update, Delete, KernelFunction, ReadLock, ReadUnlock, Answer, Kernel, Insn, Location, InContext, InFrame, AtMap}
use Rattle.model_laws.proofs.Prelude.{InSlot, with_run, locked_view, unlocked_view}
use Rattle.world.proofs.Prelude.{Request, Call, Enter, Leave, called, called_on, called_at, ReachesElement, element_number, CanServe, IsReply, maps_after}
use Rattle.world.proofs.Prelude.{grace_after, IsFlagged, ShowsGrace, with_view, world_with}
use Rattle.world_laws.proofs.Prelude.{serves, helper_called, helper_called_on, returned_view, location_of, loaded_word, number_from, bytes_of, offset_at}
use Rattle.world_laws.proofs.Prelude.{word_in, operand_word, with_word, jumped_to, branched, moves_on, ended_view, stored_frame, stored_slot, stored_at}
use Rattle.world_laws.proofs.Prelude.{advanced_view, LocalStep, Goes, Ends, Asks, local_of, local_load, local_store, Agrees, insn_step, IsCall}
use Rattle.bpf_model.specs.declared.call.Helper.{Helper as HelperId}
use Rattle.bpf_model.specs.declared.event.Answer.TheVariants as answers
use Rattle.bpf_model.specs.declared.insn.CallKind.TheVariants.{Helper}
use Rattle.bpf_model.specs.declared.insn.Insn.TheVariants as insns
use Rattle.world_laws.specs.Calling as calling
use Rattle.world_laws.proofs.Local.{local_agrees}
use Rattle.machine.specs.declared.request.Local as code
use Rattle.machine.specs.declared.request.Local.TheVariants as code_answers
use Rattle.world.specs.Elements.{maps_after_store, stored_element}
use Rattle.world.specs.Serving.{IsOwnWorld, served_step, world_showing}

-- what a load finds, where it reaches an element
loaded_is : (w : WorldView) (v : RunView) (width : ℕ) (offset : ℤ) (l : Location) → ReachesElement w.maps width offset l
    → number_from (bytes_of w v l) width (offset_at l +ℤ offset) ≡ element_number w.maps width offset l
loaded_is w v width offset (InSlot map slot o) h = refl
loaded_is w v width offset (InContext o) h = absurd h
loaded_is w v width offset (InFrame o) h = absurd h
loaded_is w v width offset (AtMap map) h = absurd h

-- what a store leaves
slot_is : (w : WorldView) (width number map slot : ℕ) (z : ℤ) (m : Option MapView) →
    stored_slot width number z map m slot w ≡ record w { maps = maps_after_store m map slot width number z w.maps }
slot_is w width number map slot (pos at) (Some m) = refl
slot_is w width number map slot (pos at) None = refl
slot_is w width number map slot (negsuc n) (Some m) = refl
slot_is w width number map slot (negsuc n) None = refl

-- What is served, as a move of the run in a world whose maps alone have changed before.
module _ (r : ℕ) (v : RunView) (w : WorldView) where
  -- the run moves on, with these maps
  abbrev goes : List MapView → RunView → Answer × WorldView
  goes maps new = moves_on r new (record w { maps = maps })

  -- a store
  stored : (width number : ℕ) (offset : ℤ) (l : Location) → ReachesElement w.maps width offset l
      → stored_at width number offset l r v w ≡ goes (stored_element width number offset l w.maps) (advanced_view 1 v)
  stored width number offset (InSlot map slot o) h = ap (moves_on r (advanced_view 1 v)) (slot_is w width number map slot (o +ℤ offset) (slice_get w.maps map))
  stored width number offset (InContext o) h = absurd h
  stored width number offset (InFrame o) h = absurd h
  stored width number offset (AtMap map) h = absurd h

  -- a helper
  pub helping : (helper : HelperId) (map : ℕ) (m : MapView) → let x : ℕ × List MapView =
      called_at helper map (Some m) v w.maps in serves helper map (Some m) r v w ≡ goes x.1 (returned_view x.0 v)
  helping Lookup map m = refl
  helping Update map m = refl
  helping Delete map m = refl

  helped_is : (helper : HelperId) (program : Loaded) → (c : IsCall helper program.maps w.maps v) → (word : ℕ) → word ≡ (called helper program.maps v w.maps).0
      → helper_called (Some helper) program r v w ≡ goes (called helper program.maps v w.maps).1 (returned_view word v)
  helped_is helper program c word e =
      let known : called helper program.maps v w.maps ≡ called_at helper c.map (Some c.view) v w.maps =
      ap (λ (o : Option ℕ). called_on helper o v w.maps) c.named ∙ ap (λ (m : Option MapView). called_at helper c.map m v w.maps) c.there in
      ap (λ (o : Option ℕ). helper_called_on helper o r v w) c.named
      ∙ ap (λ (m : Option MapView). serves helper c.map m r v w) c.there
      ∙ helping helper c.map c.view
      ∙ ap (λ (x : ℕ × List MapView). goes x.1 (returned_view x.0 v)) (sym known)
      ∙ ap (λ (n : ℕ). goes (called helper program.maps v w.maps).1 (returned_view n v)) (sym e)

  module _ (program : Loaded) (word : ℕ) where
    -- the world once the request is served and the run has gone on
    abbrev Done : Insn → Request → Type 0
    Done i request = insn_step i program r v w ≡ goes (maps_after request program.maps v w.maps) (resumed_view i word v)

    abbrev Served : Insn → Request → Type 0
    Served i request = CanServe request program.maps w.maps v → IsReply request program.maps w.maps v word → Done i request

    calls : (imm : ℤ) (o : Option HelperId) (request : Request) → helper_of imm ≡ o → option_map Call o ≡ Some request → Served (insns.Call Helper imm) request
    calls imm None request e g = λ can reply. absurd (none-some request g)
    calls imm (Some helper) request e g = subst (Served (insns.Call Helper imm)) (same_Some (Call helper) request g) (λ can reply.
        ap (λ (o : Option HelperId). helper_called o program r v w) e ∙ helped_is helper program can word reply)

    -- a lock and an unlock
    passes : (imm : ℤ) (o : Option KernelFunction) (request : Request) → kernel_function_of imm ≡ o →
        option_map kernel_request o ≡ Some request → Served (insns.Call Kernel imm) request
    passes imm None request e g = λ can reply. absurd (none-some request g)
    passes imm (Some ReadLock) request e g = subst (Served (insns.Call Kernel imm)) (same_Some Enter request g) (λ can reply.
        ap (λ (o : Option KernelFunction). calling.kernel_called o r v w) e ∙ ap (λ (o : Option KernelFunction). moves_on r (entered_view o v) w) (sym e))
    passes imm (Some ReadUnlock) request e g = subst (Served (insns.Call Kernel imm)) (same_Some Leave request g) (λ can reply.
        ap (λ (o : Option KernelFunction). calling.kernel_called o r v w) e ∙ ap (λ (o : Option KernelFunction). moves_on r (entered_view o v) w) (sym e))

    loads : (make : ℕ → ℕ) (dst width address : ℕ) (offset : ℤ) →
        ReachesElement w.maps width offset (location_of address) →
        word ≡ element_number w.maps width offset (location_of address)
        → moves_on r (with_word 1 dst (make (loaded_word w v width offset address)) v) w ≡ goes w.maps (with_word 1 dst (make word) v)
    loads make dst width address offset can reply = ap (λ (n : ℕ). moves_on r (with_word 1 dst (make n) v) w)
        (loaded_is w v width offset (location_of address) can ∙ sym reply)

    pub served_moves : (i : Insn) (request : Request) → request_of i v ≡ Some request → Served i request
    served_moves (insns.Load width dst src offset) request e = subst (Served (insns.Load width dst src offset)) (same_Some _ request e)
        (loads (λ n. n) dst (byte_count width) (word_in v src) offset)
    served_moves (insns.LoadSigned width dst src offset) request e = subst (Served (insns.LoadSigned width dst src offset)) (same_Some _ request e)
        (loads (loaded_signed width) dst (byte_count (unsigned_width width)) (word_in v src) offset)
    served_moves (insns.Store width dst offset src) request e = subst (Served (insns.Store width dst offset src)) (same_Some _ request e) (λ can reply.
        stored (byte_count width) (operand_word v src) offset (location_of (word_in v dst)) can)
    served_moves (insns.Call Helper imm) request e = calls imm (helper_of imm) request refl e
    served_moves (insns.Call Kernel imm) request e = passes imm (kernel_function_of imm) request refl e
    served_moves i request e = λ can reply. absurd (none-some request e)

-- a reply leaves the run its program
entered-program : (o : Option KernelFunction) (v : RunView) → (entered_view o v).program ≡ v.program
entered-program (Some ReadLock) v = refl
entered-program (Some ReadUnlock) v = refl
entered-program None v = refl

pub resumed-program : (i : Insn) (word : ℕ) (v : RunView) → (resumed_view i word v).program ≡ v.program
resumed-program (insns.Load width dst src offset) word v = refl
resumed-program (insns.LoadSigned width dst src offset) word v = refl
resumed-program (insns.Store width dst offset src) word v = refl
resumed-program (insns.Call Helper imm) word v = refl
resumed-program (insns.Call Kernel imm) word v = entered-program (kernel_function_of imm) v
resumed-program i word v = refl

-- A run that was resumed after a reply: the depths are as before but for its own, which is that of
-- its view, and of the awaited sections those are awaited that are still open.
pub record IsResumed (g : GraceState) (r : ℕ) (request : Request) (new : RunView) : Type 0 where
  pub depths : (grace_after request r g).depths ≡ slice_set g.depths r new.depth
  pub awaited : (grace_after request r g).awaited ≡ still_open g.awaited (opened_in (grace_after request r g))

module _ (g : GraceState) (r : ℕ) (v : RunView) (deep : slice_get g.depths r ≡ Some v.depth)
    (inside : still_open g.awaited (opened_in g) ≡ g.awaited) (word : ℕ) where
  stays : g.depths ≡ slice_set g.depths r v.depth
  stays = sym (set-same g.depths r v.depth deep)

  here : depth_at g r ≡ v.depth
  here = get_or_from_slice_get g.depths r v.depth 0 deep

  calls-on : (o : Option HelperId) (request : Request) → option_map Call o ≡ Some request → IsResumed g r request (returned_view word v)
  calls-on None request e = absurd (none-some request e)
  calls-on (Some helper) request e = subst (λ a. IsResumed g r a (returned_view word v))
      (same_Some (Call helper) request e) (record { depths = stays; awaited = sym inside })

  passes-on : (o : Option KernelFunction) (request : Request) → option_map kernel_request o ≡ Some request → IsResumed g r request (entered_view o v)
  passes-on None request e = absurd (none-some request e)
  passes-on (Some ReadLock) request e = subst (λ a. IsResumed g r a (locked_view v)) (same_Some Enter request e) (record {
    depths = ap (λ d. slice_set g.depths r (d + 1)) here;
    awaited = refl;
  })
  passes-on (Some ReadUnlock) request e = subst (λ a. IsResumed g r a (unlocked_view v)) (same_Some Leave request e) (record {
    depths = ap (λ d. slice_set g.depths r (d - 1)) here;
    awaited = refl;
  })

  pub goes_on : (i : Insn) (request : Request) → request_of i v ≡ Some request → IsResumed g r request (resumed_view i word v)
  goes_on (insns.Load width dst src offset) request e =
      subst (λ a. IsResumed g r a (with_word 1 dst word v)) (same_Some _ request e)
      (record { depths = stays; awaited = sym inside })
  goes_on (insns.LoadSigned width dst src offset) request e =
      subst (λ a. IsResumed g r a (with_word 1 dst (loaded_signed width word) v)) (same_Some _ request e)
      (record { depths = stays; awaited = sym inside })
  goes_on (insns.Store width dst offset src) request e =
      subst (λ a. IsResumed g r a (advanced_view 1 v)) (same_Some _ request e)
      (record { depths = stays; awaited = sym inside })
  goes_on (insns.Call Helper imm) request e = calls-on (helper_of imm) request e
  goes_on (insns.Call Kernel imm) request e = passes-on (kernel_function_of imm) request e
  goes_on i request e = absurd (none-some request e)

-- equal flags make equal worlds
same-showing : (maps : List MapView) (os ps cs ds : List Bool) (r : ℕ) (v : RunView) (w : WorldView) → os ≡ ps →
    cs ≡ ds → world_showing maps os cs r v w ≡ world_showing maps ps ds r v w
same-showing maps os ps cs ds r v w e f =
    ap (λ (l : List Bool). world_showing maps l cs r v w) e ∙ ap (λ (l : List Bool). world_showing maps ps l r v w) f

-- A world that shows the depths, in which the run has moved on, shows the depths of then.
module _ (r : ℕ) (w : WorldView) (g : GraceState) (shows : ShowsGrace w g) where
  pub shown-after : (request : Request) (maps : List MapView) (new : RunView) → IsResumed g r request new →
      with_run r (Some new) (record w { maps = maps }) ≡ world_with maps (grace_after request r g) r new w
  shown-after request maps new on =
      let after : GraceState = grace_after request r g in
      let e : slice_set w.opened r (nat_lt 0 new.depth) ≡ opened_in after =
      ap (λ (os : List Bool). slice_set os r (nat_lt 0 new.depth)) shows.opened ∙
      (sym (map-set is_open_depth g.depths r new.depth) ∙ ap (map is_open_depth) (sym on.depths)) in
      let f : still_open w.awaited (slice_set w.opened r (nat_lt 0 new.depth)) ≡ after.awaited =
      ap (still_open w.awaited) e ∙ (ap (λ (fs : List Bool). still_open fs (opened_in after)) shows.awaited ∙ sym on.awaited) in
      same-showing maps _ _ _ _ r new w e f

  -- where the run alone has changed, the world shows the same depths
  pub shown-still : (new : RunView) → with_view r new w ≡ world_with w.maps g r new w
  shown-still new = same-showing w.maps _ _ _ _ r new w shows.opened shows.awaited

  pub shown-inside : still_open w.awaited w.opened ≡ w.awaited → still_open g.awaited (opened_in g) ≡ g.awaited
  shown-inside e = ap (still_open g.awaited) (sym shows.opened) ∙ (ap (λ (fs : List Bool). still_open fs w.opened) (sym shows.awaited) ∙ (e ∙ shows.awaited))

pub served_is : (r : ℕ) (v : RunView) (w : WorldView) → IsFlagged w r v → (g : GraceState) → ShowsGrace w g →
    slice_get g.depths r ≡ Some v.depth → (program : Loaded) (word : ℕ) (i : Insn) (request : Request) →
    request_of i v ≡ Some request
    → CanServe request program.maps w.maps v → IsReply request program.maps w.maps v word →
    insn_step i program r v w ≡ served_step request i program word r v g w
served_is r v w f g shows deep program word i request asked can reply =
    let on = goes_on g r v deep (shown-inside r w g shows f.awaited) word i request asked in
    served_moves r v w program word i request asked can reply
    ∙ ap (λ (x : WorldView). (let y : Answer × WorldView = (answers.Moved, x) in y))
    (shown-after r w g shows request (maps_after request program.maps v w.maps) (resumed_view i word v) on)

-- What a run does by itself leaves its depth and its program.
abbrev pub SameRun : RunView → RunView → Type 0
SameRun v new = (new.depth ≡ v.depth) × (new.program ≡ v.program)

abbrev KeepsRun : RunView → LocalStep → Type 0
KeepsRun v (Goes new) = SameRun v new
KeepsRun v (Ends n) = Unit {0}
KeepsRun v Asks = Unit {0}

jumped-run : (z : ℤ) (v : RunView) → SameRun v (jumped_to z v)
jumped-run (pos n) v = (refl, refl)
jumped-run (negsuc n) v = (refl, refl)

branched-run : (b : Bool) (offset : ℤ) (v : RunView) → SameRun v (branched b offset v)
branched-run true offset v = jumped-run (pos (v.place + 1) +ℤ offset) v
branched-run false offset v = (refl, refl)

stored-run : (width number : ℕ) (z : ℤ) (v : RunView) → SameRun v (stored_frame width number z v)
stored-run width number (pos n) v = (refl, refl)
stored-run width number (negsuc n) v = (refl, refl)

load-run : (width : ℕ) (offset : ℤ) (dst : ℕ) (make : ℕ → ℕ) (l : Location) (v : RunView) → KeepsRun v (local_load width offset dst make l v)
load-run width offset dst make (InContext o) v = (refl, refl)
load-run width offset dst make (InFrame o) v = (refl, refl)
load-run width offset dst make (AtMap map) v = tt
load-run width offset dst make (InSlot map slot o) v = tt

store-run : (width : ℕ) (offset : ℤ) (number : ℕ) (l : Location) (v : RunView) → KeepsRun v (local_store width offset number l v)
store-run width offset number (InFrame o) v = stored-run width number (o +ℤ offset) v
store-run width offset number (InContext o) v = tt
store-run width offset number (AtMap map) v = tt
store-run width offset number (InSlot map slot o) v = tt

pub keeps-run : (i : Insn) (v : RunView) → KeepsRun v (local_of i v)
keeps-run (insns.Alu op size dst src) v = (refl, refl)
keeps-run (insns.Unary op dst) v = (refl, refl)
keeps-run (insns.LoadNumber dst n) v = (refl, refl)
keeps-run (insns.LoadMap dst map) v = (refl, refl)
keeps-run (insns.Jump offset) v = jumped-run (pos (v.place + 1) +ℤ offset) v
keeps-run (insns.JumpLong imm) v = jumped-run (pos (v.place + 1) +ℤ imm) v
keeps-run (insns.JumpIf condition size dst src offset) v = branched-run (compares size condition (word_in v dst) (operand_word v src)) offset v
keeps-run (insns.Call kind imm) v = tt
keeps-run insns.Exit v = tt
keeps-run (insns.Load width dst src offset) v = load-run (byte_count width) offset dst (λ n. n) (location_of (word_in v src)) v
keeps-run (insns.LoadSigned width dst src offset) v = load-run (byte_count (unsigned_width width)) offset dst
    (loaded_signed width) (location_of (word_in v src)) v
keeps-run (insns.Store width dst offset src) v = store-run (byte_count width) offset (operand_word v src) (location_of (word_in v dst)) v

module _ (r : ℕ) (v : RunView) (w : WorldView) (f : IsFlagged w r v) where
  -- a move at the same depth leaves all flags
  kept : (new : RunView) → new.depth ≡ v.depth → with_run r (Some new) w ≡ with_view r new w
  kept new same =
      let e : slice_set w.opened r (nat_lt 0 new.depth) ≡ w.opened = ap (λ d. slice_set w.opened r (nat_lt 0 d)) same
      ∙ set-same w.opened r (nat_lt 0 v.depth) f.opened in
      let g : still_open w.awaited (slice_set w.opened r (nat_lt 0 new.depth)) ≡ w.awaited = ap (still_open w.awaited) e ∙ f.awaited in
      same-showing w.maps _ _ _ _ r new w e g

  module _ (asked : Option Request) (after : RunView) (x : Answer × WorldView) where
    own : (local : LocalStep) (answer : code.Local) → Agrees local r v w x → KeepsRun v local →
        IsLocalStep local asked v answer after → IsOwnWorld answer asked r v after w x
    own (Goes new) answer agrees same (e, g) = subst (λ (a : code.Local). IsOwnWorld a asked r v after w x) (sym e)
        (agrees ∙ ap (λ (u : WorldView). (let y : Answer × WorldView = (answers.Moved, u) in y)) (kept new same.0)
        ∙ ap (λ (n : RunView). (let y : Answer × WorldView = (answers.Moved, with_view r n w) in y)) (sym g))
    own (Ends n) answer agrees same (e, g) = subst (λ (a : code.Local). IsOwnWorld a asked r v after w x) (sym e)
        (agrees ∙ ap (λ (u : WorldView). (let y : Answer × WorldView = (answers.Exited n, u) in y)) (kept (ended_view n v) refl)
        ∙ ap (λ (u : RunView). (let y : Answer × WorldView = (answers.Exited n, with_view r u w) in y)) (sym g))
    own Asks answer agrees same (request, is, e, g) = subst (λ (a : code.Local). IsOwnWorld a asked r v after w x) (sym e) (is, g)

pub own_is : (i : Insn) (program : Loaded) (r : ℕ) (v after : RunView) (w : WorldView) (asked : Option Request)
    (answer : code.Local) → IsFlagged w r v → IsLocalStep (local_of i v) asked v answer after →
    IsOwnWorld answer asked r v after w (insn_step i program r v w)
own_is i program r v after w asked answer f h = own r v w f asked after (insn_step i program r v w) (local_of i v)
    answer (local_agrees i program r v w) (keeps-run i v) h

-- the run after its step is of the same program, and as deep
pub own_keeps : (i : Insn) (v after : RunView) (asked : Option Request) (answer : code.Local) →
    IsLocalStep (local_of i v) asked v answer after → SameRun v after
own_keeps i v after asked answer h = by (local_of i v) (keeps-run i v) h
  where
    by : (local : LocalStep) → KeepsRun v local → IsLocalStep local asked v answer after → SameRun v after
    by (Goes new) same (e, g) = subst (SameRun v) (sym g) same
    by (Ends n) same (e, g) = subst (SameRun v) (sym g) (refl, refl)
    by Asks same (request, is, e, g) = subst (SameRun v) (sym g) (refl, refl)

-- where it asks, it asks by the law too
pub own_asks : (i : Insn) (v after : RunView) (asked : Option Request) (request : Request) →
    IsLocalStep (local_of i v) asked v (code_answers.Shared request) after → (local_of i v ≡ Asks) ×
    (asked ≡ Some request) × (after ≡ v)
own_asks i v after asked request h = by (local_of i v) h
  where
    by : (local : LocalStep) → IsLocalStep local asked v (code_answers.Shared request) after → (local ≡ Asks) × (asked ≡ Some request) × (after ≡ v)
    by (Goes new) (e, g) = absurd (cc)
    by (Ends n) (e, g) = absurd (cc)
    by Asks (other, is, e, g) = let same : request ≡ other = cc in (refl, is ∙ ap Some (sym same), g)
