-- A step of an instruction is what the run does by itself, or a request that is served.
use Rattle.bpf_model.proofs.Prelude.{◌≡◌, ℕ, suc, List, [], ◌∷◌, Option, Some, None, Bool, true, false, ◌⊎◌, inl, inr, refl, sym, ap, ◌∙◌, subst, ℤ, ◌+ℤ◌}
use Rattle.bpf_model.proofs.Prelude.{◌==◌, ◌↔◌, slice_get, if◌then◌else◌, none-some, same_Some, cond-false, loaded_signed, operand_value, ◌>>=◌, number}
use Rattle.bpf_model.proofs.Prelude.{reference, byte_count, unsigned_width, helper_of, kernel_function_of, ret_word, State, Environment, Outcome, Moves}
use Rattle.bpf_model.proofs.Prelude.{after, sets, forward, load_from, store_to, Section, Element, accessible, Run, Machine, open_sections, environment, moves}
use Rattle.bpf_model.proofs.Prelude.{locked, unlocked, OutcomeStep, InsnStep, StepsRun, loaded_from, stored_in, frame_bytes, found_value, returns, Argument}
use Rattle.bpf_model.proofs.Prelude.{MapArgument, BytesArgument, NumberArgument, Request, LoadElement, StoreElement, CallHelper, Enter, Leave, named_map}
use Rattle.bpf_model.proofs.Prelude.{called_shape, signature_of, argument_of, arguments_of, load_request, store_request, section_request, asks}
use Rattle.bpf_model.proofs.Prelude.{extended_reply, loads, ServesRequest, bound_shape, Resumes, StepsAlone, StepsServed}
use Rattle.model_laws.proofs.Prelude.{MapShape, Insn, Call, Load, LoadSigned, Store, Helper, Lookup, Update, Delete, KernelFunction, ReadLock, ReadUnlock}
use Rattle.model_laws.proofs.Prelude.{Answer, Moved, Value, Nothing, Number, Pointer, Ctx, Frame, MapRef, Elem, StepsByKind, Acts, AccessesElement}
use Rattle.model_laws.proofs.Prelude.{KernelStep, LookupStep, UpdateStep, DeleteStep, HelperStep, element_load, element_store, bound_map, map_argument}
use Rattle.model_laws.proofs.Prelude.{key_argument, ArgumentKind, MapOfProgram, KeyOfMap, ValueOfMap, AnyNumber, ElementOrNull, IsOfKind}
use Rattle.bpf_model.specs.declared.insn.CallKind.TheVariants as kinds
use Rattle.bpf_model.specs.MapState as map_state
use Rattle.bpf_model.specs.Request.{Calls}
use Rattle.model_laws.proofs.Computations.{first-step, then-step}

-- steps of a computation, taken together
steps-apart : {A B C : Type 0} (o : Option A) (f : A → Option B) (g : B → Option C) → (o >>= λ x. f x >>= g) ≡ ((o >>= f) >>= g)
steps-apart None f g = refl
steps-apart (Some x) f g = refl

-- the arguments of a helper, one after another
module _ (shapes : ℕ → Option MapShape) (m : State) where
  with-argument : (kind : ArgumentKind) (more : List ArgumentKind) (r : ℕ) (a : Argument) (args : List Argument) →
      argument_of shapes m kind r ≡ Some a → arguments_of more shapes m (suc r) ≡ Some args →
      arguments_of (kind ∷ more) shapes m r ≡ Some (a ∷ args)
  with-argument kind more r a args h g = then-step (argument_of shapes m kind r)
      (λ x. arguments_of more shapes m (suc r) >>= λ xs. Some (x ∷ xs)) a h ∙
      then-step (arguments_of more shapes m (suc r)) (λ xs. Some (a ∷ xs)) args g

  first-argument : (kind : ArgumentKind) (more : List ArgumentKind) (r : ℕ) (all : List Argument) → arguments_of (kind ∷ more) shapes m r ≡ Some all →
      (a : Argument) × (args : List Argument) × (argument_of shapes m kind r ≡ Some a) × (arguments_of more shapes m (suc r) ≡ Some args) × (a ∷ args ≡ all)
  first-argument kind more r all h =
      let s = first-step (argument_of shapes m kind r) (λ x. arguments_of more shapes m (suc r) >>= λ xs. Some (x ∷ xs)) all h in
      let t = first-step (arguments_of more shapes m (suc r)) (λ xs. Some (s.0 ∷ xs)) all s.2 in
      (s.0, t.0, s.1, t.1, same_Some _ all t.2)

  no-argument : (r : ℕ) (args : List Argument) → arguments_of [] shapes m r ≡ Some args → [] ≡ args
  no-argument r args h = same_Some [] args h

-- the map, and the bytes that its shape gives
module _ (s : map_state.Store) (run : Run) where
  abbrev here : ℕ → Option MapShape
  here = bound_shape s run.program.maps

  map-cases : (maps : List ℕ) (v : Value) (map : ℕ) → (reference v >>= bound_map maps) ≡ Some map → (i : ℕ) ×
      (v ≡ Pointer (MapRef i)) × (slice_get maps i ≡ Some map)
  map-cases maps Nothing map h = absurd (none-some map h)
  map-cases maps (Number n) map h = absurd (none-some map h)
  map-cases maps (Pointer (Ctx o)) map h = absurd (none-some map h)
  map-cases maps (Pointer (Frame o)) map h = absurd (none-some map h)
  map-cases maps (Pointer (Elem n o)) map h = absurd (none-some map h)
  map-cases maps (Pointer (MapRef i)) map h = (i, refl, h)

  named-cases : (v : Value) (i : ℕ) → (reference v >>= named_map) ≡ Some i → v ≡ Pointer (MapRef i)
  named-cases Nothing i h = absurd (none-some i h)
  named-cases (Number n) i h = absurd (none-some i h)
  named-cases (Pointer (Ctx o)) i h = absurd (none-some i h)
  named-cases (Pointer (Frame o)) i h = absurd (none-some i h)
  named-cases (Pointer (Elem n o)) i h = absurd (none-some i h)
  named-cases (Pointer (MapRef j)) i h = ap (λ x. Pointer (MapRef x)) (same_Some j i h)

  shape-called : (i map : ℕ) → run.state.regs 1 ≡ Pointer (MapRef i) → slice_get run.program.maps i ≡ Some map →
      called_shape here run.state ≡ map_state.shape_of s map
  shape-called i map e at = ap (λ v. reference v >>= named_map >>= here) e ∙ ap (λ o. o >>= map_state.shape_of s) at

  map-given : (i : ℕ) → run.state.regs 1 ≡ Pointer (MapRef i) → argument_of here run.state MapOfProgram 1 ≡ Some (MapArgument i)
  map-given i e = ap (λ v. reference v >>= named_map >>= λ x. Some (MapArgument x)) e

  -- bytes of a length that the shape gives
  module _ (len : MapShape → ℕ) (r : ℕ) where
    abbrev bytes_of : MapShape → Option (List ℕ)
    bytes_of shape = frame_bytes run.state.frame (len shape) (run.state.regs r)

    abbrev given_by : Option MapShape → Option Argument
    given_by o = o >>= λ shape. bytes_of shape >>= λ bytes. Some (BytesArgument bytes)

    bytes-given : (i map : ℕ) (bytes : List ℕ) → run.state.regs 1 ≡ Pointer (MapRef i) →
        slice_get run.program.maps i ≡ Some map → (map_state.shape_of s map >>= bytes_of) ≡ Some bytes →
        given_by (called_shape here run.state) ≡ Some (BytesArgument bytes)
    bytes-given i map bytes e at h =
        ap given_by (shape-called i map e at) ∙ (steps-apart (map_state.shape_of s map) bytes_of
        (λ bytes. Some (BytesArgument bytes)) ∙ ap (λ o. o >>= λ bytes. Some (BytesArgument bytes)) h)

    bytes-taken : (a : Argument) → given_by (called_shape here run.state) ≡ Some a → (bytes : List ℕ) ×
        ((called_shape here run.state >>= bytes_of) ≡ Some bytes) × (BytesArgument bytes ≡ a)
    bytes-taken a h =
        let back : ((called_shape here run.state >>= bytes_of) >>= λ bytes. Some (BytesArgument bytes)) ≡ Some a =
        sym (steps-apart (called_shape here run.state) bytes_of (λ bytes. Some (BytesArgument bytes))) ∙ h in
        let t = first-step (called_shape here run.state >>= bytes_of) (λ bytes. Some (BytesArgument bytes)) a back in
        (t.0, t.1, same_Some _ a t.2)

    bytes-by_map : (i map : ℕ) (bytes : List ℕ) → run.state.regs 1 ≡ Pointer (MapRef i) →
        slice_get run.program.maps i ≡ Some map → (called_shape here run.state >>= bytes_of) ≡ Some bytes →
        (map_state.shape_of s map >>= bytes_of) ≡ Some bytes
    bytes-by_map i map bytes e at h = ap (λ o. o >>= bytes_of) (sym (shape-called i map e at)) ∙ h

  map-taken : (a : Argument) → argument_of here run.state MapOfProgram 1 ≡ Some a → (i : ℕ) × (run.state.regs 1 ≡ Pointer (MapRef i)) × (MapArgument i ≡ a)
  map-taken a h =
      let t = first-step (reference (run.state.regs 1) >>= named_map) (λ x. Some (MapArgument x)) a h in
      (t.0, named-cases (run.state.regs 1) t.0 t.1, same_Some _ a t.2)

  number-given : (r n : ℕ) → number (run.state.regs r) ≡ Some n → argument_of here run.state AnyNumber r ≡ Some (NumberArgument n)
  number-given r n h = then-step (number (run.state.regs r)) (λ x. Some (NumberArgument x)) n h

  number-taken : (r : ℕ) (a : Argument) → argument_of here run.state AnyNumber r ≡ Some a → (n : ℕ) ×
      (number (run.state.regs r) ≡ Some n) × (NumberArgument n ≡ a)
  number-taken r a h = let t = first-step (number (run.state.regs r)) (λ x. Some (NumberArgument x)) a h in (t.0, t.1, same_Some _ a t.2)

  -- the arguments of a call, and what it does with them
  module _ (opened : List Section) (ret : Value) (new : map_state.Store) where
    abbrev Called : Helper → Type 0
    Called helper = (args : List Argument) × (arguments_of (signature_of helper).arguments here run.state 1 ≡ Some
        args) × Calls helper args run.program.maps s opened ret new

    abbrev key : MapShape → ℕ
    key shape = shape.key_len

    abbrev value : MapShape → ℕ
    value shape = shape.value_len

    map-bound : (i map : ℕ) → run.state.regs 1 ≡ Pointer (MapRef i) → slice_get run.program.maps i ≡ Some map → map_argument run ≡ Some map
    map-bound i map e at = ap (λ v. reference v >>= bound_map run.program.maps) e ∙ at

    -- the arguments one after another, from the last
    flags-taken : (args : List Argument) → arguments_of (AnyNumber ∷ []) here run.state 4 ≡ Some args → (n : ℕ) ×
        (number (run.state.regs 4) ≡ Some n) × (NumberArgument n ∷ [] ≡ args)
    flags-taken args h =
        let f = first-argument here run.state AnyNumber [] 4 args h in
        let n = number-taken 4 f.0 f.2 in
        (n.0, n.1, ap (λ x. x ∷ []) n.2 ∙ (ap (λ x. f.0 ∷ x) (no-argument here run.state 5 f.1 f.3) ∙ f.4))

    value-taken : (args : List Argument) → arguments_of (ValueOfMap ∷ AnyNumber ∷ []) here run.state 3 ≡ Some args →
        (bytes : List ℕ) × (more : List Argument) × ((called_shape here run.state >>= bytes_of value 3) ≡ Some bytes)
        × (arguments_of (AnyNumber ∷ []) here run.state 4 ≡ Some more) × (BytesArgument bytes ∷ more ≡ args)
    value-taken args h =
        let f = first-argument here run.state ValueOfMap (AnyNumber ∷ []) 3 args h in
        let d = bytes-taken value 3 f.0 f.2 in
        (d.0, f.1, d.1, f.3, ap (λ x. x ∷ f.1) d.2 ∙ f.4)

    key-taken : (args : List Argument) (kinds : List ArgumentKind) → arguments_of (KeyOfMap ∷ kinds) here run.state 2 ≡ Some args →
        (bytes : List ℕ) × (more : List Argument) × ((called_shape here run.state >>= bytes_of key 2) ≡ Some bytes) ×
        (arguments_of kinds here run.state 3 ≡ Some more) × (BytesArgument bytes ∷ more ≡ args)
    key-taken args kinds h =
        let f = first-argument here run.state KeyOfMap kinds 2 args h in
        let d = bytes-taken key 2 f.0 f.2 in
        (d.0, f.1, d.1, f.3, ap (λ x. x ∷ f.1) d.2 ∙ f.4)

    named-taken : (args : List Argument) (kinds : List ArgumentKind) → arguments_of (MapOfProgram ∷ kinds) here run.state 1 ≡ Some args →
        (i : ℕ) × (more : List Argument) × (run.state.regs 1 ≡ Pointer (MapRef i)) ×
        (arguments_of kinds here run.state 2 ≡ Some more) × (MapArgument i ∷ more ≡ args)
    named-taken args kinds h =
        let f = first-argument here run.state MapOfProgram kinds 1 args h in
        let a = map-taken f.0 f.2 in
        (a.0, f.1, a.1, f.3, ap (λ x. x ∷ f.1) a.2 ∙ f.4)

    -- a map and a key
    keyed-given : (i map : ℕ) (bytes : List ℕ) → run.state.regs 1 ≡ Pointer (MapRef i) →
        slice_get run.program.maps i ≡ Some map → key_argument s run map ≡ Some bytes →
        arguments_of (MapOfProgram ∷ KeyOfMap ∷ []) here run.state 1 ≡ Some (MapArgument i ∷ BytesArgument bytes ∷ [])
    keyed-given i map bytes e at h =
        with-argument here run.state MapOfProgram (KeyOfMap ∷ []) 1 (MapArgument i) (BytesArgument bytes ∷ []) (map-given i e)
        (with-argument here run.state KeyOfMap [] 2 (BytesArgument bytes) [] (bytes-given key 2 i map bytes e at h) refl)

    pub record Keyed (args : List Argument) : Type 0 where
      pub i : ℕ
      pub bytes : List ℕ
      pub named : run.state.regs 1 ≡ Pointer (MapRef i)
      pub written : (called_shape here run.state >>= bytes_of key 2) ≡ Some bytes
      pub are : MapArgument i ∷ BytesArgument bytes ∷ [] ≡ args

    keyed-taken : (args : List Argument) → arguments_of (MapOfProgram ∷ KeyOfMap ∷ []) here run.state 1 ≡ Some args → Keyed args
    keyed-taken args h = from_map (named-taken args (KeyOfMap ∷ []) h)
      where
        from_key : (i : ℕ) (more : List Argument) → run.state.regs 1 ≡ Pointer (MapRef i) → MapArgument i ∷ more ≡ args →
            (bytes : List ℕ) × (rest : List Argument) ×
            ((called_shape here run.state >>= bytes_of key 2) ≡ Some bytes) ×
            (arguments_of [] here run.state 3 ≡ Some rest) × (BytesArgument bytes ∷ rest ≡ more) → Keyed args
        from_key i more named a (bytes, rest, written, none, b) = record {
          i = i;
          bytes = bytes;
          named = named;
          written = written;
          are = ap (λ x. MapArgument i ∷ BytesArgument bytes ∷ x) (no-argument here run.state 3 rest none) ∙ (ap (λ x. MapArgument i ∷ x) b ∙ a);
        }

        from_map : (i : ℕ) × (more : List Argument) × (run.state.regs 1 ≡ Pointer (MapRef i)) ×
            (arguments_of (KeyOfMap ∷ []) here run.state 2 ≡ Some more) × (MapArgument i ∷ more ≡ args) → Keyed args
        from_map (i, more, named, others, a) = from_key i more named a (key-taken more [] others)

    lookup-called : LookupStep s run ret → new ≡ s → Called Lookup
    lookup-called l same =
        let m = map-cases run.program.maps (run.state.regs 1) l.map l.map_is in
        (MapArgument m.0 ∷ BytesArgument l.key ∷ [], keyed-given m.0 l.map l.key m.1 m.2 l.key_is, (l.map, l.found, m.2, l.looked_up, l.ret_is, same))

    delete-called : DeleteStep s opened run ret new → Called Delete
    delete-called d =
        let m = map-cases run.program.maps (run.state.regs 1) d.map d.map_is in
        (MapArgument m.0 ∷ BytesArgument d.key ∷ [], keyed-given m.0 d.map d.key m.1 m.2 d.key_is, (d.map, d.outcome, m.2, d.deleted, d.ret_is))

    called-lookup : Called Lookup → LookupStep s run ret × (new ≡ s)
    called-lookup c = by c.0 (keyed-taken c.0 c.1) c.2
      where
        by : (args : List Argument) (k : Keyed args) → Calls Lookup args run.program.maps s opened ret new → LookupStep s run ret × (new ≡ s)
        by args k h =
            let done = subst (λ l. Calls Lookup l run.program.maps s opened ret new) (sym k.are) h in (
              record {
                map = done.0;
                key = k.bytes;
                found = done.1;
                map_is = map-bound k.i done.0 k.named done.2;
                key_is = bytes-by_map key 2 k.i done.0 k.bytes k.named done.2 k.written;
                looked_up = done.3;
                ret_is =
                    done.4;
              },
              done.5,
            )

    called-delete : Called Delete → DeleteStep s opened run ret new
    called-delete c = by c.0 (keyed-taken c.0 c.1) c.2
      where
        by : (args : List Argument) (k : Keyed args) → Calls Delete args run.program.maps s opened ret new → DeleteStep s opened run ret new
        by args k h =
            let done = subst (λ l. Calls Delete l run.program.maps s opened ret new) (sym k.are) h in
            record {
              map = done.0;
              key = k.bytes;
              outcome = done.1;
              map_is = map-bound k.i done.0 k.named done.2;
              key_is = bytes-by_map key 2 k.i done.0 k.bytes k.named done.2 k.written;
              deleted = done.3;
              ret_is =
                  done.4;
            }

    -- a map, a key, a value and flags
    update-called : UpdateStep s opened run ret new → Called Update
    update-called u =
        let m = map-cases run.program.maps (run.state.regs 1) u.map u.map_is in
        let flags = with-argument here run.state AnyNumber [] 4 (NumberArgument u.flags) [] (number-given 4 u.flags u.flags_are) refl in
        let values = with-argument here run.state ValueOfMap (AnyNumber ∷ []) 3 (BytesArgument u.value)
        (NumberArgument u.flags ∷ []) (bytes-given value 3 m.0 u.map u.value m.1 m.2 u.value_is) flags in
        let keys = with-argument here run.state KeyOfMap (ValueOfMap ∷ AnyNumber ∷ []) 2 (BytesArgument u.key)
        (BytesArgument u.value ∷ NumberArgument u.flags ∷ []) (bytes-given key 2 m.0 u.map u.key m.1 m.2 u.key_is)
        values in
        let all = with-argument here run.state MapOfProgram (KeyOfMap ∷ ValueOfMap ∷ AnyNumber ∷ []) 1
        (MapArgument m.0) (BytesArgument u.key ∷ BytesArgument u.value ∷ NumberArgument u.flags ∷ [])
        (map-given m.0 m.1) keys in
        (MapArgument m.0 ∷ BytesArgument u.key ∷ BytesArgument u.value ∷ NumberArgument u.flags ∷ [], all, (u.map, u.outcome, m.2, u.updated, u.ret_is))

    pub record Whole (args : List Argument) : Type 0 where
      pub i : ℕ
      pub bytes : List ℕ
      pub new_value : List ℕ
      pub flags : ℕ
      pub named : run.state.regs 1 ≡ Pointer (MapRef i)
      pub key_written : (called_shape here run.state >>= bytes_of key 2) ≡ Some bytes
      pub value_written : (called_shape here run.state >>= bytes_of value 3) ≡ Some new_value
      pub flags_are : number (run.state.regs 4) ≡ Some flags
      pub are : MapArgument i ∷ BytesArgument bytes ∷ BytesArgument new_value ∷ NumberArgument flags ∷ [] ≡ args

    whole-taken : (args : List Argument) → arguments_of (MapOfProgram ∷ KeyOfMap ∷ ValueOfMap ∷ AnyNumber ∷ []) here run.state 1 ≡ Some args → Whole args
    whole-taken args h = from_map (named-taken args (KeyOfMap ∷ ValueOfMap ∷ AnyNumber ∷ []) h)
      where
        from_flags : (i : ℕ) (more : List Argument) (bytes : List ℕ) (rest : List Argument) (v : List ℕ)
            (last : List Argument) → run.state.regs 1 ≡ Pointer (MapRef i) → MapArgument i ∷ more ≡ args →
            (called_shape here run.state >>= bytes_of key 2) ≡ Some bytes → BytesArgument bytes ∷ rest ≡ more →
            (called_shape here run.state >>= bytes_of value 3) ≡ Some v → BytesArgument v ∷ last ≡ rest → (n : ℕ) ×
            (number (run.state.regs 4) ≡ Some n) × (NumberArgument n ∷ [] ≡ last) → Whole args
        from_flags i more bytes rest v last named a written b value_is c n = record {
          i = i;
          bytes = bytes;
          new_value = v;
          flags = n.0;
          named = named;
          key_written = written;
          value_written = value_is;
          flags_are = n.1;
          are = ap (λ x. MapArgument i ∷ BytesArgument bytes ∷ BytesArgument v ∷ x) n.2 ∙
              (ap (λ x. MapArgument i ∷ BytesArgument bytes ∷ x) c ∙ (ap (λ x. MapArgument i ∷ x) b ∙ a));
        }

        from_map : (i : ℕ) × (more : List Argument) × (run.state.regs 1 ≡ Pointer (MapRef i)) ×
            (arguments_of (KeyOfMap ∷ ValueOfMap ∷ AnyNumber ∷ []) here run.state 2 ≡ Some more) ×
            (MapArgument i ∷ more ≡ args) → Whole args
        from_map (i, more, named, others, a) =
            let k = key-taken more (ValueOfMap ∷ AnyNumber ∷ []) others in
            let v = value-taken k.1 k.3 in
            from_flags i more k.0 k.1 v.0 v.1 named a k.2 k.4 v.2 v.4 (flags-taken v.1 v.3)

    called-update : Called Update → UpdateStep s opened run ret new
    called-update c = by c.0 (whole-taken c.0 c.1) c.2
      where
        by : (args : List Argument) (k : Whole args) → Calls Update args run.program.maps s opened ret new → UpdateStep s opened run ret new
        by args k h =
            let done = subst (λ l. Calls Update l run.program.maps s opened ret new) (sym k.are) h in
            record {
              map = done.0;
              key = k.bytes;
              value = k.new_value;
              flags = k.flags;
              outcome = done.1;
              map_is = map-bound k.i done.0 k.named done.2;
              key_is = bytes-by_map key 2 k.i done.0 k.bytes k.named done.2 k.key_written;
              value_is = bytes-by_map value 3 k.i done.0 k.new_value k.named done.2 k.value_written;
              flags_are = k.flags_are;
              updated = done.3;
              ret_is = done.4;
            }

    helper-called : (f : Option Helper) → HelperStep f s opened run ret new → (helper : Helper) × (f ≡ Some helper) × Called helper
    helper-called (Some Lookup) h = (Lookup, refl, lookup-called h.0 h.1)
    helper-called (Some Update) h = (Update, refl, update-called h)
    helper-called (Some Delete) h = (Delete, refl, delete-called h)
    helper-called None h = absurd h

    called-helper : (f : Option Helper) (helper : Helper) → f ≡ Some helper → Called helper → HelperStep f s opened run ret new
    called-helper f Lookup e c = subst (λ x. HelperStep x s opened run ret new) (sym e) (called-lookup c)
    called-helper f Update e c = subst (λ x. HelperStep x s opened run ret new) (sym e) (called-update c)
    called-helper f Delete e c = subst (λ x. HelperStep x s opened run ret new) (sym e) (called-delete c)

-- accesses to elements
load-there : (es : List Element) (width : ℕ) (offset : ℤ) (base : Value) (v : ℕ) →
    element_load es width offset base ≡ Some v → (n : ℕ) × (o : ℤ) × (base ≡ Pointer (Elem n o)) ×
    ((accessible es n >>= loaded_from width (o +ℤ offset)) ≡ Some v)
load-there es width offset Nothing v h = absurd (none-some v h)
load-there es width offset (Number x) v h = absurd (none-some v h)
load-there es width offset (Pointer (Ctx o)) v h = absurd (none-some v h)
load-there es width offset (Pointer (Frame o)) v h = absurd (none-some v h)
load-there es width offset (Pointer (MapRef m)) v h = absurd (none-some v h)
load-there es width offset (Pointer (Elem n o)) v h = (n, o, refl, h)

pub record StoreThere (es new : List Element) (width : ℕ) (offset : ℤ) (v base : Value) : Type 0 where
  pub n : ℕ
  pub o : ℤ
  pub x : ℕ
  pub value_is : v ≡ Number x
  pub base_is : base ≡ Pointer (Elem n o)
  pub stored : (accessible es n >>= stored_in es n width (o +ℤ offset) x) ≡ Some new

pub store-there : (es new : List Element) (width : ℕ) (offset : ℤ) (v base : Value) →
    element_store es width offset v base ≡ Some new → StoreThere es new width offset v base
store-there es new width offset Nothing base h = absurd (none-some new h)
store-there es new width offset (Pointer r) base h = absurd (none-some new h)
store-there es new width offset (Number v) Nothing h = absurd (none-some new h)
store-there es new width offset (Number v) (Number x) h = absurd (none-some new h)
store-there es new width offset (Number v) (Pointer (Ctx o)) h = absurd (none-some new h)
store-there es new width offset (Number v) (Pointer (Frame o)) h = absurd (none-some new h)
store-there es new width offset (Number v) (Pointer (MapRef m)) h = absurd (none-some new h)
store-there es new width offset (Number v) (Pointer (Elem n o)) h = record { n = n; o = o; x = v; value_is = refl; base_is = refl; stored = h }

pub record LoadAsked (width : ℕ) (offset : ℤ) (base : Value) (b : Bool) (request : Request) : Type 0 where
  pub n : ℕ
  pub o : ℤ
  pub free : b ≡ false
  pub base_is : base ≡ Pointer (Elem n o)
  pub request_is : LoadElement n (o +ℤ offset) width ≡ request

load-asked : (width : ℕ) (offset : ℤ) (base : Value) (b : Bool) (request : Request) →
    (if b then None else load_request width offset base) ≡ Some request → LoadAsked width offset base b request
load-asked width offset base true request h = absurd (none-some request h)
load-asked width offset Nothing false request h = absurd (none-some request h)
load-asked width offset (Number x) false request h = absurd (none-some request h)
load-asked width offset (Pointer (Ctx o)) false request h = absurd (none-some request h)
load-asked width offset (Pointer (Frame o)) false request h = absurd (none-some request h)
load-asked width offset (Pointer (MapRef m)) false request h = absurd (none-some request h)
load-asked width offset (Pointer (Elem n o)) false request h = record { n = n; o = o; free = refl; base_is = refl; request_is = same_Some _ request h }

pub record StoreAsked (width : ℕ) (offset : ℤ) (v base : Value) (request : Request) : Type 0 where
  pub n : ℕ
  pub o : ℤ
  pub x : ℕ
  pub value_is : v ≡ Number x
  pub base_is : base ≡ Pointer (Elem n o)
  pub request_is : StoreElement n (o +ℤ offset) width x ≡ request

store-asked : (width : ℕ) (offset : ℤ) (v base : Value) (request : Request) →
    store_request width offset v base ≡ Some request → StoreAsked width offset v base request
store-asked width offset Nothing base request h = absurd (none-some request h)
store-asked width offset (Pointer r) base request h = absurd (none-some request h)
store-asked width offset (Number v) Nothing request h = absurd (none-some request h)
store-asked width offset (Number v) (Number x) request h = absurd (none-some request h)
store-asked width offset (Number v) (Pointer (Ctx o)) request h = absurd (none-some request h)
store-asked width offset (Number v) (Pointer (Frame o)) request h = absurd (none-some request h)
store-asked width offset (Number v) (Pointer (MapRef m)) request h = absurd (none-some request h)
store-asked width offset (Number v) (Pointer (Elem n o)) request h =
    record { n = n; o = o; x = v; value_is = refl; base_is = refl; request_is = same_Some _ request h }

-- a register is set, and not r10
set-some : (b : Bool) (x out : Outcome) → (if b then None else Some x) ≡ Some out → (b ≡ false) × (x ≡ out)
set-some true x out h = absurd (none-some out h)
set-some false x out h = (refl, same_Some x out h)

-- a request that is asked is none that the run meets by itself
pub asks_or_acts : (i : Insn) (shapes : ℕ → Option MapShape) (env : Environment) (m : State) (request : Request) →
    asks i shapes m ≡ Some request → after i env m ≡ None
asks_or_acts (Load width dst src offset) shapes env m request h =
    let a = load-asked (byte_count width) offset (m.regs src) (dst == 10) request h in
    ap (λ b. load_from env m (byte_count width) offset b >>= λ v. sets 1 dst v m) a.base_is
asks_or_acts (LoadSigned width dst src offset) shapes env m request h =
    let a = load-asked (byte_count (unsigned_width width)) offset (m.regs src) (dst == 10) request h in
    ap (λ b. load_from env m (byte_count (unsigned_width width)) offset b >>= λ v. number v >>= λ n. sets 1 dst (Number (loaded_signed width n)) m) a.base_is
asks_or_acts (Store width dst offset src) shapes env m request h =
    let a = store-asked (byte_count width) offset (operand_value src m.regs) (m.regs dst) request h in
    ap (store_to m (byte_count width) offset (operand_value src m.regs)) a.base_is
asks_or_acts (Call kind imm) shapes env m request h = refl
asks_or_acts i shapes env m request h = absurd (none-some request h)

-- a step, by what is asked
module _ (s : map_state.Store) (opened : List Section) (run : Run) (answer : Answer) (new : map_state.Store) (new_run : Run) where
  abbrev Served : Insn → Type 0
  Served i = StepsServed i s opened run answer new new_run

  kernel-served : (imm : ℤ) (f : Option KernelFunction) → kernel_function_of imm ≡ f → KernelStep f run new_run →
      answer ≡ Moved → new ≡ s → Served (Call kinds.Kernel imm)
  kernel-served imm (Some ReadLock) e h moved same = record {
    request = Enter;
    reply = Nothing;
    asked =
        ap (λ o. o >>= λ f. Some (section_request f)) e;
    served = (refl, same);
    answer_is = moved;
    resumes = h;
  }
  kernel-served imm (Some ReadUnlock) e h moved same =
      record {
        request = Leave;
        reply = Nothing;
        asked = ap (λ o. o >>= λ f. Some (section_request f)) e;
        served =
            (refl, same);
        answer_is = moved;
        resumes = h;
      }
  kernel-served imm None e h moved same = absurd h

  helper-served : (imm : ℤ) (ret : Value) → HelperStep (helper_of imm) s opened run ret new → answer ≡ Moved →
      new_run ≡ moves run (returns ret run.state) → Served (Call kinds.Helper imm)
  helper-served imm ret h moved is =
      let c = helper-called s run opened ret new (helper_of imm) h in
      record {
        request = CallHelper c.0 c.2.0;
        reply = ret;
        asked = then-step (helper_of imm) (λ helper. arguments_of (signature_of helper).arguments (here s run)
            run.state 1 >>= λ args. Some (CallHelper helper args)) c.0 c.1 ∙
            then-step (arguments_of (signature_of c.0).arguments (here s run) run.state 1)
            (λ args. Some (CallHelper c.0 args)) c.2.0 c.2.1;
        served = c.2.2;
        answer_is = moved;
        resumes = is;
      }

  access-served : (i : Insn) (out : Outcome) (es : List Element) → AccessesElement i s.elements run.state out es →
      new ≡ map_state.with_elements es s → OutcomeStep out run answer new_run → Served i
  access-served (Load width dst src offset) out es h same ends =
      let l = load-there s.elements (byte_count width) offset (run.state.regs src) h.0 h.1 in
      let t = set-some (dst == 10) (Moves (loads dst (Number h.0) run.state)) out h.2 in
      let goes = subst (λ x. OutcomeStep x run answer new_run) (sym t.1) ends in
      record {
        request = LoadElement l.0 (l.1 +ℤ offset) (byte_count width);
        reply = Number h.0;
        asked = ap (λ b. if b then None else load_request (byte_count width) offset (run.state.regs src)) t.0 ∙ ap (load_request (byte_count width) offset) l.2;
        served = (h.0, l.3, refl, same ∙ ap (λ x. map_state.with_elements x s) h.3);
        answer_is = goes.0;
        resumes = goes.1;
      }
  access-served (LoadSigned width dst src offset) out es h same ends =
      let l = load-there s.elements (byte_count (unsigned_width width)) offset (run.state.regs src) h.0 h.1 in
      let t = set-some (dst == 10) (Moves (loads dst (Number (loaded_signed width h.0)) run.state)) out h.2 in
      let goes = subst (λ x. OutcomeStep x run answer new_run) (sym t.1) ends in
      record {
        request = LoadElement l.0 (l.1 +ℤ offset) (byte_count (unsigned_width width));
        reply = Number h.0;
        asked = ap (λ b. if b then None else load_request (byte_count (unsigned_width width)) offset
            (run.state.regs src)) t.0 ∙ ap (load_request (byte_count (unsigned_width width)) offset) l.2;
        served = (h.0, l.3, refl, same ∙ ap (λ x. map_state.with_elements x s) h.3);
        answer_is = goes.0;
        resumes = goes.1;
      }
  access-served (Store width dst offset src) out es h same ends =
      let t = store-there s.elements es (byte_count width) offset (operand_value src run.state.regs) (run.state.regs dst) h.0 in
      let goes = subst (λ x. OutcomeStep x run answer new_run) h.1 ends in
      record {
        request = StoreElement t.n (t.o +ℤ offset) (byte_count width) t.x;
        reply = Nothing;
        asked = ap (λ v. store_request (byte_count width) offset v (run.state.regs dst)) t.value_is ∙
            ap (store_request (byte_count width) offset (Number t.x)) t.base_is;
        served = (es, t.stored, refl, same);
        answer_is = goes.0;
        resumes = goes.1;
      }
  access-served i out es h same ends = absurd h

  acts-served : (i : Insn) (out : Outcome) (es : List Element) → Acts i (environment run) s.elements run.state out es
      → new ≡ map_state.with_elements es s → OutcomeStep out run answer new_run →
      StepsAlone i s run answer new new_run ⊎ Served i
  acts-served i out es (inl h) same ends = inl (out, h.0, same ∙ ap (λ x. map_state.with_elements x s) h.1, ends)
  acts-served i out es (inr h) same ends = inr (access-served i out es h same ends)

  forth : (i : Insn) → StepsByKind i s opened run answer new new_run → StepsAlone i s run answer new new_run ⊎ Served i
  forth (Call kinds.Kernel imm) h = inr (kernel-served imm (kernel_function_of imm) refl h.0 h.1 h.2)
  forth (Call kinds.Helper imm) h = inr (helper-served imm h.0 h.1 h.2 h.3)
  forth i h = acts-served i h.0 h.1 h.2 h.3 h.4

  -- a step by itself or by a served request is a step of the instruction
  alone-steps : (i : Insn) → StepsAlone i s run answer new new_run → StepsByKind i s opened run answer new new_run
  alone-steps (Call kinds.Kernel imm) h = absurd (none-some h.0 h.1)
  alone-steps (Call kinds.Helper imm) h = absurd (none-some h.0 h.1)
  alone-steps i h = (h.0, s.elements, inl (h.1, refl), h.2, h.3)

  abbrev Serving : Request → Value → Type 0
  Serving request reply = ServesRequest run.program.maps request s opened reply new

  kernel-steps : (imm : ℤ) (f : KernelFunction) (reply : Value) → kernel_function_of imm ≡ Some f →
      Serving (section_request f) reply → answer ≡ Moved →
      Resumes (section_request f) (Call kinds.Kernel imm) reply run new_run →
      StepsByKind (Call kinds.Kernel imm) s opened run answer new new_run
  kernel-steps imm ReadLock reply e served moved r =
      (subst (λ x. KernelStep x run new_run) (sym e) (r.0, subst (λ x. new_run ≡ moves (locked run) (returns x run.state)) served.0 r.1), moved, served.1)
  kernel-steps imm ReadUnlock reply e served moved r =
      (subst (λ x. KernelStep x run new_run) (sym e) (r.0, subst (λ x. new_run ≡ moves (unlocked run) (returns x run.state)) served.0 r.1), moved, served.1)

  back : (i : Insn) → Served i → StepsByKind i s opened run answer new new_run
  back (Load width dst src offset) h =
      let a = load-asked (byte_count width) offset (run.state.regs src) (dst == 10) h.request h.asked in
      let is : h.request ≡ LoadElement a.n (a.o +ℤ offset) (byte_count width) = sym a.request_is in
      let done = subst (λ x. Serving x h.reply) is h.served in
      let goes : new_run ≡ moves run (loads dst h.reply run.state) = subst (λ x. Resumes x (Load width dst src offset) h.reply run new_run) is h.resumes in (
        Moves (loads dst (Number done.0) run.state),
        s.elements,
        inr (done.0, ap (element_load s.elements (byte_count width) offset) a.base_is ∙ done.1, cond-false (dst == 10) _ _ a.free, refl),
        done.3,
        (h.answer_is, goes ∙ ap (λ v. moves run (loads dst v run.state)) done.2),
      )
  back (LoadSigned width dst src offset) h =
      let a = load-asked (byte_count (unsigned_width width)) offset (run.state.regs src) (dst == 10) h.request h.asked in
      let is : h.request ≡ LoadElement a.n (a.o +ℤ offset) (byte_count (unsigned_width width)) = sym a.request_is in
      let done = subst (λ x. Serving x h.reply) is h.served in
      let goes : new_run ≡ moves run (loads dst (extended_reply width h.reply) run.state) =
      subst (λ x. Resumes x (LoadSigned width dst src offset) h.reply run new_run) is h.resumes in (
        Moves (loads dst (Number (loaded_signed width done.0)) run.state),
        s.elements,
        inr (done.0, ap (element_load s.elements (byte_count (unsigned_width width)) offset) a.base_is ∙ done.1, cond-false (dst == 10) _ _ a.free, refl),
        done.3,
        (h.answer_is, goes ∙ ap (λ v. moves run (loads dst (extended_reply width v) run.state)) done.2),
      )
  back (Store width dst offset src) h =
      let a = store-asked (byte_count width) offset (operand_value src run.state.regs) (run.state.regs dst) h.request h.asked in
      let is : h.request ≡ StoreElement a.n (a.o +ℤ offset) (byte_count width) a.x = sym a.request_is in
      let done = subst (λ x. Serving x h.reply) is h.served in
      let goes : new_run ≡ moves run (forward 1 run.state) = subst (λ x. Resumes x (Store width dst offset src) h.reply run new_run) is h.resumes in (
        Moves (forward 1 run.state),
        done.0,
        inr (
          ap (λ v. element_store s.elements (byte_count width) offset v (run.state.regs dst)) a.value_is ∙
              (ap (element_store s.elements (byte_count width) offset (Number a.x)) a.base_is ∙ done.1),
          refl,
        ),
        done.3,
        (h.answer_is, goes),
      )
  back (Call kinds.Kernel imm) h =
      let f = first-step (kernel_function_of imm) (λ x. Some (section_request x)) h.request h.asked in
      let is : h.request ≡ section_request f.0 = sym (same_Some _ h.request f.2) in
      kernel-steps imm f.0 h.reply f.1 (subst (λ x. Serving x h.reply) is h.served) h.answer_is
      (subst (λ x. Resumes x (Call kinds.Kernel imm) h.reply run new_run) is h.resumes)
  back (Call kinds.Helper imm) h =
      let f = first-step (helper_of imm) (λ helper. arguments_of (signature_of helper).arguments (here s run)
      run.state 1 >>= λ args. Some (CallHelper helper args)) h.request h.asked in
      let g = first-step (arguments_of (signature_of f.0).arguments (here s run) run.state 1) (λ args. Some (CallHelper f.0 args)) h.request f.2 in
      let is : h.request ≡ CallHelper f.0 g.0 = sym (same_Some _ h.request g.2) in
      let goes : new_run ≡ moves run (returns h.reply run.state) = subst (λ x. Resumes x (Call kinds.Helper imm) h.reply run new_run) is h.resumes in
      (h.reply, called-helper s run opened h.reply new (helper_of imm) f.0 f.1 (g.0, g.1, subst (λ x. Serving x h.reply) is h.served), h.answer_is, goes)
  back i h = absurd (none-some h.request h.asked)

-- the two directions
pub by_kind : (i : Insn) (s : map_state.Store) (opened : List Section) (run : Run) (answer : Answer)
    (new : map_state.Store) (new_run : Run) → InsnStep i s opened run answer new new_run →
    StepsByKind i s opened run answer new new_run
by_kind i s opened run answer new new_run (inl h) = alone-steps s opened run answer new new_run i h
by_kind i s opened run answer new new_run (inr h) = back s opened run answer new new_run i h

pub of_kind : (i : Insn) (s : map_state.Store) (opened : List Section) (run : Run) (answer : Answer)
    (new : map_state.Store) (new_run : Run) → StepsByKind i s opened run answer new new_run →
    InsnStep i s opened run answer new new_run
of_kind i s opened run answer new new_run h = forth s opened run answer new new_run i h

pub run_by_kind : (m : Machine) (r : ℕ) (answer : Answer) (new : Machine) (h : StepsRun m r answer new) →
    StepsByKind h.step.0 m.store (open_sections m.runs) h.run answer h.new_store h.new_run
run_by_kind m r answer new h = by_kind h.step.0 m.store (open_sections m.runs) h.run answer h.new_store h.new_run h.step.2

pub steps_by_kind : (i : Insn) (s : map_state.Store) (opened : List Section) (run : Run) (answer : Answer)
    (new : map_state.Store) (new_run : Run) → InsnStep i s opened run answer new new_run ↔ StepsByKind i s opened run
    answer new new_run
steps_by_kind i s opened run answer new new_run = (by_kind i s opened run answer new new_run, of_kind i s opened run answer new new_run)

-- a helper's reply is of the kind of its signature
found-kind : (reply : Value) (found : Option ℕ) → reply ≡ found_value found → IsOfKind ElementOrNull reply
found-kind reply None h = inl h
found-kind reply (Some n) h = inr (n, h)

pub replies_by_signature : (helper : Helper) (args : List Argument) (bound : List ℕ) (s : map_state.Store)
    (opened : List Section) (reply : Value) (new : map_state.Store) → Calls helper args bound s opened reply new →
    IsOfKind (signature_of helper).result reply
replies_by_signature Lookup (MapArgument i ∷ BytesArgument key ∷ []) bound s opened reply new h = found-kind reply h.1 h.4
replies_by_signature Update (MapArgument i ∷ BytesArgument key ∷ BytesArgument value ∷ NumberArgument flags ∷ [])
    bound s opened reply new h = (ret_word h.1, h.4)
replies_by_signature Delete (MapArgument i ∷ BytesArgument key ∷ []) bound s opened reply new h = (ret_word h.1, h.4)
replies_by_signature helper args bound s opened reply new h = absurd h
