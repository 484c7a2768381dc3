-- A run that maps around it have answered stands among the maps after the call. First it forgets each reference to an
-- element that it may not access, since such a number may be born in the call.
use Rattle.bpf_model.proofs.Prelude.{◌≡◌, ℕ, zero, suc, ◌+◌, refl, sym, ap, subst, ◌∙◌, arith, List, [], ◌∷◌, length, Option, Some, None, Bool, true}
use Rattle.bpf_model.proofs.Prelude.{false, inl, inr, slice_get, nat_le, if◌then◌else◌, ℤ, pos, negsuc, false≢true}
use Rattle.bpf_model.proofs.Prelude.{none-some, same_Some, slice_get_within, helper_of, Element, Life, accessible, is_reclaimed, unless_reclaimed, byte_of}
use Rattle.bpf_model.proofs.Prelude.{bytes_at, bytes_from, frame_bytes, Run, moves, InsnStep, StepsServed, MapState, Store, AllBytes, Argument, MapArgument}
use Rattle.bpf_model.proofs.Prelude.{BytesArgument, NumberArgument, Request, CallHelper, ServesRequest, argument_of, arguments_of, asks, bound_shape}
use Rattle.bpf_model.proofs.Prelude.{called_shape, named_map, signature_of, Section, State, insn_at, returns, ◌>>=◌, number, reference}
use Rattle.bpf_model.proofs.Prelude.{RunView, slot_base, AreWords}
use Rattle.model_laws.proofs.Prelude.{ArgumentKind, MapOfProgram, KeyOfMap, ValueOfMap, AnyNumber, Insn, Call, MapShape, FRAME_BYTES, Cell}
use Rattle.model_laws.proofs.Prelude.{Unwritten, Byte, Part, Value, Nothing, Number, Pointer, Ctx, Frame, MapRef, Elem}
use Rattle.plan_laws.proofs.Prelude.{IsHeld, scene_of, IsClosed, IsPlanned, IsVerified, Plan, Surrounds}
use Rattle.world_laws.proofs.Prelude.{returned_view, IsNumbered, IsRunOf, IsSlotWord, MapsAnswer}
use Rattle.bpf_model.specs.declared.insn.CallKind.TheVariants as kinds
use Rattle.model_laws.proofs.Computations.{first-step, then-step}
use Rattle.model_laws.proofs.Holding.{Closed, holds-returns}
use Rattle.model_laws.proofs.Keeping.{element-before, keeps-lengths, keeps-single}
use Rattle.model_laws.proofs.Stores.{AllLengths, Ends, LifeMoves, StoreMoves, Stays, Unlinks, accessible-born, moves-insn}
use Rattle.plan_laws.proofs.Arrays.{AllStayKept}
use Rattle.plan_laws.proofs.Elements.{accessible-held}
use Rattle.plan_laws.proofs.Reaching.{bound-kept}
use Rattle.world_laws.specs.Standing.{LieInSlots}
use Rattle.world_laws.proofs.Calling.{returned-words}
use Rattle.world_laws.proofs.Erasing as erasing

pub numbered-closed : Closed IsNumbered
numbered-closed = record { context = λ o. tt; frame = λ o. tt; moved = λ n o p h. h }

-- A helper is called with no reference to an element, so that the call stays when those are forgotten.
module _ (g : ℕ → Option ℕ) where
  byte-kept : (x : Cell) (b : ℕ) → byte_of x ≡ Some b → byte_of (erasing.cell g x) ≡ Some b
  byte-kept Unwritten b e = absurd (none-some b e)
  byte-kept (Byte n) b e = e
  byte-kept (Part i r) b e = absurd (none-some b e)

  abbrev cells : (ℕ → Cell) → ℕ → Cell
  cells frame k = erasing.cell g (frame k)

  bytes-kept : (frame : ℕ → Cell) (at len : ℕ) (bytes : List ℕ) → bytes_at frame at len ≡ Some bytes → bytes_at (cells frame) at len ≡ Some bytes
  bytes-kept frame at zero bytes e = e
  bytes-kept frame at (suc n) bytes e =
      let f = first-step (byte_of (frame at)) (λ b. bytes_at frame (suc at) n >>= λ bs. Some (b ∷ bs)) bytes e in
      let h = first-step (bytes_at frame (suc at) n) (λ bs. Some (f.0 ∷ bs)) bytes f.2 in
      ap (λ o. o >>= λ b. bytes_at (cells frame) (suc at) n >>= λ bs. Some (b ∷ bs)) (byte-kept (frame at) f.0 f.1)
      ∙ ap (λ o. o >>= λ bs. Some (f.0 ∷ bs)) (bytes-kept frame (suc at) n h.0 h.1) ∙ h.2

  inside-kept : (t : Bool) (frame : ℕ → Cell) (at len : ℕ) (bytes : List ℕ) →
      (if t then bytes_at frame at len else None) ≡ Some bytes → (if t then bytes_at (cells frame) at len else None) ≡ Some bytes
  inside-kept true frame at len bytes e = bytes-kept frame at len bytes e
  inside-kept false frame at len bytes e = e

  from-kept : (frame : ℕ → Cell) (len : ℕ) (o : ℤ) (bytes : List ℕ) → bytes_from frame len o ≡ Some bytes → bytes_from (cells frame) len o ≡ Some bytes
  from-kept frame len (pos at) bytes e = inside-kept (nat_le (at + len) FRAME_BYTES) frame at len bytes e
  from-kept frame len (negsuc n) bytes e = e

  frame-kept : (frame : ℕ → Cell) (len : ℕ) (u : Value) (bytes : List ℕ) → frame_bytes frame len u ≡ Some bytes →
      frame_bytes (cells frame) len (erasing.value g u) ≡ Some bytes
  frame-kept frame len (Pointer (Frame o)) bytes e = from-kept frame len o bytes e
  frame-kept frame len u bytes e = absurd (none-some bytes e)

  number-kept : (u : Value) (n : ℕ) → number u ≡ Some n → number (erasing.value g u) ≡ Some n
  number-kept Nothing n e = absurd (none-some n e)
  number-kept (Number x) n e = e
  number-kept (Pointer r) n e = absurd (none-some n e)

  map-kept : (u : Value) (map : ℕ) → (reference u >>= named_map) ≡ Some map → (reference (erasing.value g u) >>= named_map) ≡ Some map
  map-kept Nothing map e = absurd (none-some map e)
  map-kept (Number x) map e = absurd (none-some map e)
  map-kept (Pointer (Ctx o)) map e = absurd (none-some map e)
  map-kept (Pointer (Frame o)) map e = absurd (none-some map e)
  map-kept (Pointer (MapRef m)) map e = e
  map-kept (Pointer (Elem n o)) map e = absurd (none-some map e)

  module _ (shapes : ℕ → Option MapShape) (m : State) where
    abbrev bare : State
    bare = erasing.state g m

    shape-kept : (shape : MapShape) → called_shape shapes m ≡ Some shape → called_shape shapes bare ≡ Some shape
    shape-kept shape e =
        let f = first-step (reference (m.regs 1) >>= named_map) shapes shape e in
        ap (λ o. o >>= shapes) (map-kept (m.regs 1) f.0 f.1) ∙ f.2

    bytes-argument : (size : MapShape → ℕ) (r : ℕ) (a : Argument) →
        (called_shape shapes m >>= λ shape. frame_bytes m.frame (size shape) (m.regs r) >>= λ bytes. Some (BytesArgument bytes)) ≡ Some a →
        (called_shape shapes bare >>= λ shape. frame_bytes bare.frame (size shape) (bare.regs r) >>= λ bytes. Some (BytesArgument bytes)) ≡ Some a
    bytes-argument size r a e =
        let f = first-step (called_shape shapes m) (λ shape. frame_bytes m.frame (size shape) (m.regs r) >>= λ bytes. Some (BytesArgument bytes)) a e in
        let h = first-step (frame_bytes m.frame (size f.0) (m.regs r)) (λ bytes. Some (BytesArgument bytes)) a f.2 in
        ap (λ o. o >>= λ shape. frame_bytes bare.frame (size shape) (bare.regs r) >>= λ bytes. Some (BytesArgument bytes)) (shape-kept f.0 f.1)
        ∙ ap (λ o. o >>= λ bytes. Some (BytesArgument bytes)) (frame-kept m.frame (size f.0) (m.regs r) h.0 h.1) ∙ h.2

    argument-kept : (kind : ArgumentKind) (r : ℕ) (a : Argument) → argument_of shapes m kind r ≡ Some a → argument_of shapes bare kind r ≡ Some a
    argument-kept MapOfProgram r a e =
        let f = first-step (reference (m.regs r) >>= named_map) (λ map. Some (MapArgument map)) a e in
        ap (λ o. o >>= λ map. Some (MapArgument map)) (map-kept (m.regs r) f.0 f.1) ∙ f.2
    argument-kept KeyOfMap r a e = bytes-argument (λ shape. shape.key_len) r a e
    argument-kept ValueOfMap r a e = bytes-argument (λ shape. shape.value_len) r a e
    argument-kept AnyNumber r a e =
        let f = first-step (number (m.regs r)) (λ n. Some (NumberArgument n)) a e in
        ap (λ o. o >>= λ n. Some (NumberArgument n)) (number-kept (m.regs r) f.0 f.1) ∙ f.2

    arguments-kept : (all : List ArgumentKind) (r : ℕ) (arguments : List Argument) → arguments_of all shapes m r ≡ Some arguments →
        arguments_of all shapes bare r ≡ Some arguments
    arguments-kept [] r arguments e = e
    arguments-kept (kind ∷ more) r arguments e =
        let f = first-step (argument_of shapes m kind r) (λ a. arguments_of more shapes m (suc r) >>= λ rest. Some (a ∷ rest)) arguments e in
        let h = first-step (arguments_of more shapes m (suc r)) (λ rest. Some (f.0 ∷ rest)) arguments f.2 in
        ap (λ o. o >>= λ a. arguments_of more shapes bare (suc r) >>= λ rest. Some (a ∷ rest)) (argument-kept kind r f.0 f.1)
        ∙ ap (λ o. o >>= λ rest. Some (f.0 ∷ rest)) (arguments-kept more (suc r) h.0 h.1) ∙ h.2

    -- the request is a call, and stays
    pub record Called (imm : ℤ) (request : Request) : Type 0 where
      pub call : (helper : _) × (arguments : List Argument) × (request ≡ CallHelper helper arguments)
      pub asked : asks (Call kinds.Helper imm) shapes bare ≡ Some request

    called : (imm : ℤ) (request : Request) → asks (Call kinds.Helper imm) shapes m ≡ Some request → Called imm request
    called imm request e =
        let f = first-step (helper_of imm) (λ helper. arguments_of (signature_of helper).arguments shapes m 1
        >>= λ arguments. Some (CallHelper helper arguments)) request e in
        let h = first-step (arguments_of (signature_of f.0).arguments shapes m 1) (λ arguments. Some (CallHelper f.0 arguments)) request f.2 in
        record {
          call = (f.0, h.0, sym (same_Some _ request h.2));
          asked = ap (λ o. o >>= λ helper. arguments_of (signature_of helper).arguments shapes bare 1
              >>= λ arguments. Some (CallHelper helper arguments)) f.1
              ∙ ap (λ o. o >>= λ arguments. Some (CallHelper f.0 arguments)) (arguments-kept (signature_of f.0).arguments 1 h.0 h.1) ∙ h.2;
        }

-- where an element lies that was there before, and where a new one may
abbrev base-or : Option Element → ℕ → ℕ
base-or None base = slot_base 0 0
base-or (Some e) base = base

first-slot : IsSlotWord (slot_base 0 0)
first-slot = record { map = 0; slot = 0; few_maps = omega arith; few_slots = omega arith; is = refl }

pub unreclaimed : (b : Bool) (x e : Element) → (if b then None else Some x) ≡ Some e → b ≡ false
unreclaimed true x e h = absurd (none-some e h)
unreclaimed false x e h = refl

-- the elements after a step
module _ (opened : List Section) (s new : Store) (mv : StoreMoves false opened s new) where
  life-kept : (a b : Life) → LifeMoves false opened a b → is_reclaimed a ≡ false → is_reclaimed b ≡ false
  life-kept a b (Stays e) h = ap is_reclaimed e ∙ h
  life-kept a b (Unlinks l e) h = ap is_reclaimed e
  life-kept a b (Ends since r l ended e) h = absurd (false≢true r)

  life-before : (a b : Life) → LifeMoves false opened a b → is_reclaimed b ≡ false → is_reclaimed a ≡ false
  life-before a b (Stays e) h = ap is_reclaimed (sym e) ∙ h
  life-before a b (Unlinks l e) h = ap is_reclaimed l
  life-before a b (Ends since r l ended e) h = absurd (false≢true r)

  arrays-kept : AllStayKept s → AllLengths s → AllStayKept new
  arrays-kept stays lengths n f at state there array = elim (element-before false opened s new n f mv at) [
    | inl x ↦
        let l = lengths n x.old x.there in
        let later = mv.shapes x.old.map l.0 l.1 in
        let same : later.0 ≡ state = same_Some later.0 state (sym later.1 ∙ (ap (slice_get new.maps) (sym x.alters.in_map) ∙ there)) in
        life-kept x.old.life f.life x.alters.life
        (stays n x.old x.there l.0 l.1 (ap (λ z. z.kind) (sym later.2) ∙ (ap (λ (z : MapState). z.shape.kind) same ∙ array)))
    | inr x ↦ ap is_reclaimed x.linked
  ]

  module _ (bases : ℕ → ℕ) where
    abbrev later-bases : ℕ → ℕ
    later-bases n = base-or (slice_get s.elements n) (bases n)

    -- a new one lies in some map slot
    born-lies : (n : ℕ) (o : Option Element) → slice_get s.elements n ≡ o → n ≡ length s.elements → IsSlotWord (base-or o (bases n))
    born-lies n None at last = first-slot
    born-lies n (Some e) at last = let below = slice_get_within s.elements n e at in absurd (omega (arith, below, last))

    lie-kept : LieInSlots bases s.elements → LieInSlots later-bases new.elements
    lie-kept lie n f reached =
        let born = accessible-born new.elements n (slice_get new.elements n) f refl reached in
        let alive : is_reclaimed f.life ≡ false = unreclaimed (is_reclaimed f.life) f f (ap (λ o. o >>= unless_reclaimed) (sym born) ∙ reached) in
        elim (element-before false opened s new n f mv born) [
          | inl x ↦
              let before : is_reclaimed x.old.life ≡ false = life-before x.old.life f.life x.alters.life alive in
              subst IsSlotWord (sym (ap (λ o. base-or o (bases n)) x.there))
              (lie n x.old (ap (λ o. o >>= unless_reclaimed) x.there ∙ ap (λ b. if b then None else Some x.old) before))
          | inr x ↦ born-lies n (slice_get s.elements n) refl x.last
        ]

module _ (code : List Insn) (shapes : List MapShape) (ctx_len : ℕ) (some : IsVerified code shapes ctx_len) (v : RunView) (word : ℕ)
    (h : MapsAnswer code shapes ctx_len v word) where
  abbrev s : Store
  s = h.stands.store

  abbrev run : Run
  run = h.stands.run

  -- what the run may access it goes on to refer to
  abbrev reached : ℕ → Option ℕ
  reached n = accessible s.elements n >>= λ e. Some n

  abbrev bare_run : Run
  bare_run = erasing.erased reached run

  abbrev later : Run
  later = moves bare_run (returns (Number word) bare_run.state)

  abbrev bases : ℕ → ℕ
  bases n = base-or (slice_get s.elements n) (h.stands.bases n)

  held : (map n : ℕ) → IsHeld (scene_of s run) map n → (k : ℕ) × (reached n ≡ Some k) × IsHeld (scene_of s bare_run) map k
  held map n x = (
    n,
    then-step (accessible s.elements n) (λ e. Some n) x.element (accessible-held s run map n h.stands.surrounds.arrays x),
    record { element = x.element; born = x.born; in_map = x.in_map; allowed = x.allowed },
  )

  planned : (plan : Plan) → IsClosed code shapes ctx_len plan → (index : ℕ) × IsPlanned code plan index (scene_of s bare_run) bare_run.state
  planned plan closed =
      let p = h.stands.planned plan closed in (
        p.0,
        record {
          at = p.1.at;
          known = p.1.known;
          planned = p.1.planned;
          describes = erasing.describes-erased reached (scene_of s run) (scene_of s bare_run) refl held p.1.known run.state p.1.describes;
        },
      )

  -- the call of the run that has forgotten
  served : StepsServed (Call kinds.Helper h.imm) s h.stands.opened bare_run h.answer h.new_store later
  served =
      let c = called reached (bound_shape s run.program.maps) run.state h.imm h.step.request h.step.asked in
      let serves = subst (λ (u : Value). ServesRequest run.program.maps h.step.request s h.stands.opened u h.new_store) h.reply_is h.step.served in
      record {
        request = CallHelper c.call.0 c.call.1;
        reply = Number word;
        asked = c.asked ∙ ap Some c.call.2;
        served = subst (λ (q : Request). ServesRequest run.program.maps q s h.stands.opened (Number word) h.new_store) c.call.2 serves;
        answer_is = h.step.answer_is;
        resumes = refl;
      }

  insn-step : InsnStep (Call kinds.Helper h.imm) s h.stands.opened bare_run h.answer h.new_store later
  insn-step = inr served

  mv : StoreMoves false h.stands.opened s h.new_store
  mv = moves-insn (Call kinds.Helper h.imm) s h.stands.opened bare_run h.answer h.new_store later h.stands.surrounds.single
      h.stands.surrounds.lengths insn-step

  around : Surrounds shapes ctx_len s h.stands.opened bare_run
  around =
      let a = h.stands.surrounds in
      record {
        going = a.going;
        section = a.section;
        single = a.single;
        lengths = a.lengths;
        arrays = a.arrays;
        bytes = a.bytes;
        bound = a.bound;
        long = a.long;
        context = a.context;
      }

  pub record Led (plan : Plan) : Type 0 where
    pub bytes : AllBytes h.new_store.elements
    pub index : ℕ
    pub there : IsPlanned code plan index (scene_of h.new_store later) later.state

  leads : (plan : Plan) → IsClosed code shapes ctx_len plan → Led plan
  leads plan closed =
      let p = planned plan closed in
      let l = closed.leads p.0 (Call kinds.Helper h.imm) s h.stands.opened bare_run h.answer h.new_store later around p.1
      (ap (insn_at code) (sym h.stands.words.place) ∙ h.here) insn-step in
      let after = l.1 h.stands.surrounds.going in
      record { bytes = l.0; index = after.index; there = after.planned }

  same-base : (n k : ℕ) → reached n ≡ Some k → bases k ≡ h.stands.bases n
  same-base n k e =
      let f = first-step (accessible s.elements n) (λ x. Some n) k e in
      let at = accessible-born s.elements n (slice_get s.elements n) f.0 refl f.1 in
      subst (λ (j : ℕ). bases j ≡ h.stands.bases n) (same_Some n k f.2) (ap (λ o. base-or o (h.stands.bases n)) at)

  words : AreWords bases (returned_view word v) later
  words = returned-words bases v bare_run (erasing.words-erased reached h.stands.bases bases same-base v run h.stands.words) (Number word) word refl

  pub answer_stands : IsRunOf code shapes ctx_len (returned_view word v)
  answer_stands =
      let a = h.stands.surrounds in
      record {
        run = later;
        store = h.new_store;
        opened = h.stands.opened;
        bases = bases;
        surrounds = record {
          going = a.going;
          section = a.section;
          single = keeps-single false h.stands.opened s h.new_store mv a.single;
          lengths = keeps-lengths false h.stands.opened s h.new_store mv a.lengths;
          arrays = arrays-kept h.stands.opened s h.new_store mv a.arrays a.lengths;
          bytes = (leads some.plan some.closed).bytes;
          bound = bound-kept shapes run.program.maps s.maps h.new_store.maps mv.shapes a.bound;
          long = a.long;
          context = a.context;
        };
        planned = λ plan closed. ((leads plan closed).index, (leads plan closed).there);
        numbered = holds-returns IsNumbered numbered-closed (Number word) bare_run.state tt (
          λ q. erasing.numbered-value reached (run.state.regs q) (h.stands.numbered.0 q),
          λ k. erasing.numbered-cell reached (run.state.frame k) (h.stands.numbered.1 k),
        );
        lie = lie-kept h.stands.opened s h.new_store mv h.stands.bases h.stands.lie;
        words = words;
      }
