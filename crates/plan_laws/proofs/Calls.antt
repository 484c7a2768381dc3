-- Calls of a described run.
use Rattle.bpf_model.proofs.Prelude.{◌≡◌, ◌≢◌, ℕ, ◌+◌, ◌-◌, ◌<◌, ◌/◌, List, Option, Some, None, ◌⊎◌, inl, inr, refl, sym, ap, subst, ℤ, arith, Bool, true}
use Rattle.bpf_model.proofs.Prelude.{false, ◌∙◌, slice_get, if◌then◌else◌, ne_eqb, eqb_tells, helper_of, kernel_function_of, slot_count, falls, State}
use Rattle.bpf_model.proofs.Prelude.{Section, Store, LooksUp, Run, section_of, moves, locked, unlocked, found_value, returns}
use Rattle.model_laws.proofs.Prelude.{Array, MapShape, MAX_DEPTH, Insn, Call, ReadLock, ReadUnlock, Moved, Value, Nothing, Cell, KernelStep, HelperStep}
use Rattle.model_laws.proofs.Prelude.{LookupStep, map_argument}
use Rattle.plan_laws.proofs.Prelude.{Kind, Blank, Mixed, Ended, Num, CtxAt, FrameAt, MapAt, ValueAt, MaybeNull, CellKind, BlankCell, MixedCell, EndedCell}
use Rattle.plan_laws.proofs.Prelude.{ByteCell, PartCell, AbsState, Scene, scene_of, IsGuarded, IsArrayMap, IsHeld, Naming, IsNullOrHeld, IsOf, Stored}
use Rattle.plan_laws.proofs.Prelude.{IsOfCell, Describes, after_call, after_lock, after_unlock, is_array_in, ended_kind, ended_cell, left_kind, left_cell}
use Rattle.plan_laws.proofs.Prelude.{IsFresh, HasMap, HasBytes, AreMapsBound, Surrounds, Leads, Transfers}
use Rattle.plan_laws.proofs.Valued.{same-bytes}
use Rattle.bpf_model.specs.declared.insn.CallKind.TheVariants as kinds
use Rattle.bpf_model.specs.declared.call.Helper.TheVariants as helpers
use Rattle.scalar_domain.specs.declared.scalar.Scalar.{Scalar}
use Rattle.plan_laws.specs.Describes.{IsGuardedInside}
use Rattle.plan_laws.proofs.Arrays.{shape-bound, array-bound}
use Rattle.plan_laws.proofs.Kept.{HoldsOn, of-kept, cell-kept}
use Rattle.plan_laws.proofs.Sets.{returned-of, near-returned, named-described}
use Rattle.plan_laws.proofs.Finding.{looks-up}
use Rattle.plan_laws.proofs.Arguments.{bound, map-listed, map-is, key-is}
use Rattle.model_laws.proofs.Requests.{by_kind, of_kind}

-- control falls through
pub falls-to : (i : Insn) (new : AbsState) (taken : Option AbsState) (s : Store) (run : Run) (next : State)
    (place : ℕ) (new_run : Run) → falls i ≡ true → next.place ≡ place + slot_count i →
    Describes new (scene_of s run) next →
    new_run ≡ moves run next → Leads i new taken place s new_run
falls-to i new taken s run next place new_run f at d e = subst (λ (r : Run). Leads i new taken place s r) (sym e) (λ going. inl (f, at, d))

-- a lock: what is held stays held, since the section is the same where one is open
lock-holds : (s : Store) (run : Run) → HoldsOn (scene_of s run) (scene_of s (locked run))
lock-holds s run map n h = record {
  element = h.element;
  born = h.born;
  in_map = h.in_map;
  allowed = elim h.allowed [
    | inl g ↦
        let inside : 0 < run.depth = g.0 in
        let same : section_of (locked run) ≡ section_of run =
        ap (λ (b : Bool). record { run = run.name; number = if b then run.sections + 1 else run.sections })
        (ne_eqb run.depth 0 (λ e. absurd (omega (arith, inside, e)))) in
        inl (omega (arith, inside), subst (IsGuarded h.element.life) (sym same) g.1)
    | inr a ↦ inr (record { number = a.number; listed = a.listed; array = a.array })
  ];
}

lock-described : (a : AbsState) (s : Store) (run : Run) → Describes a (scene_of s run) run.state →
    Describes (after_lock a) (scene_of s (locked run)) (returns Nothing run.state)
lock-described a s run d =
    let c : Scene = scene_of s run in
    let n : Scene = scene_of s (locked run) in
    let k : HoldsOn c n = lock-holds s run in record {
      naming = d.naming;
      stored = d.stored;
      depth = ap (λ x. x + 1) d.depth;
      near = near-returned Nothing run.state tt d.near;
      regs = λ q. returned-of n d.naming q Blank Nothing a.regs run.state tt (of-kept c n k d.naming (a.regs q) (run.state.regs q) (d.regs q));
      cells = λ i. cell-kept c n k d.naming d.stored i (a.cells i) (run.state.frame i) (d.cells i);
    }

kernel-locks : (imm : ℤ) (run new : Run) → kernel_function_of imm ≡ Some ReadLock →
    KernelStep (kernel_function_of imm) run new → (run.depth < MAX_DEPTH) ×
    (new ≡ moves (locked run) (returns Nothing run.state))
kernel-locks imm run new e h = subst (λ f. KernelStep f run new) e h

pub lock_transfers : (imm : ℤ) (shapes : List MapShape) (ctx_len : ℕ) (a : AbsState) →
    kernel_function_of imm ≡ Some ReadLock → a.depth < MAX_DEPTH →
    Transfers (Call kinds.Kernel imm) shapes ctx_len a (after_lock a) None
lock_transfers imm shapes ctx_len a f few = record {
  goes = λ s opened run w target d.
      let room : run.depth < MAX_DEPTH = subst (λ n. n < MAX_DEPTH) (sym d.depth) few in (
        Moved,
        s,
        moves (locked run) (returns Nothing run.state),
        of_kind (Call kinds.Kernel imm) s opened run Moved s (moves (locked run) (returns Nothing run.state)) (
          subst (λ g. KernelStep g run (moves (locked run) (returns Nothing run.state))) (sym f) (room, refl),
          refl,
          refl,
        ),
      );
  leads = λ s opened run answer new_store new_run w target d step.
      let h = by_kind (Call kinds.Kernel imm) s opened run answer new_store new_run step in
      let k = kernel-locks imm run new_run f h.0 in (
        same-bytes s new_store h.2 w.bytes,
        subst (λ (x : Store). Leads (Call kinds.Kernel imm) (after_lock a) None run.state.place x new_run) (sym h.2)
            (falls-to (Call kinds.Kernel imm) (after_lock a) None s (locked run) (returns Nothing run.state)
            run.state.place new_run refl refl (lock-described a s run d) k.1),
      );
}

-- the outermost unlock: nothing that may be an element of a hash map is known any longer
module _ (shapes : List MapShape) (c n : Scene) (k : (map element : ℕ) → is_array_in shapes map ≡ true →
    IsHeld c map element → IsHeld n map element) (ρ : Naming) where
  ended-null : (map : ℕ) (o : Option ℕ) → is_array_in shapes map ≡ true → IsNullOrHeld c map o → IsNullOrHeld n map o
  ended-null map None array h = tt
  ended-null map (Some element) array h = k map element array h

  value-of : (b : Bool) (map : ℕ) (s : Scalar) (v : Value) → is_array_in shapes map ≡ b → IsOf c ρ (ValueAt map s) v →
      IsOf n ρ (if b then ValueAt map s else Ended) v
  value-of true map s v array h = record { n = h.n; offset = h.offset; is = h.is; there = h.there; held = k map h.n array h.held }
  value-of false map s v array h = tt

  maybe-of : (b : Bool) (map id : ℕ) (v : Value) → is_array_in shapes map ≡ b → IsOf c ρ (MaybeNull map id) v →
      IsOf n ρ (if b then MaybeNull map id else Ended) v
  maybe-of true map id v array h = (h.0, ended-null map (ρ id) array h.1)
  maybe-of false map id v array h = tt

  ended-of : (kind : Kind) (v : Value) → IsOf c ρ kind v → IsOf n ρ (ended_kind shapes kind) v
  ended-of Blank v h = tt
  ended-of Mixed v h = tt
  ended-of Ended v h = tt
  ended-of (Num s) v h = h
  ended-of (CtxAt o) v h = h
  ended-of (FrameAt o) v h = h
  ended-of (MapAt map) v h = h
  ended-of (ValueAt map s) v h = value-of (is_array_in shapes map) map s v refl h
  ended-of (MaybeNull map id) v h = maybe-of (is_array_in shapes map) map id v refl h

  module _ (σ : Stored) (i : ℕ) where
    value-part : (b : Bool) (map : ℕ) (s : Scalar) (x : Cell) → is_array_in shapes map ≡ b →
        IsOfCell c ρ σ i (PartCell (ValueAt map s)) x →
        IsOfCell n ρ σ i (if b then PartCell (ValueAt map s) else EndedCell) x
    value-part true map s x array h = (h.0, value-of true map s (σ (i / 8)) array h.1)
    value-part false map s x array h = tt

    maybe-part : (b : Bool) (map id : ℕ) (x : Cell) → is_array_in shapes map ≡ b →
        IsOfCell c ρ σ i (PartCell (MaybeNull map id)) x →
        IsOfCell n ρ σ i (if b then PartCell (MaybeNull map id) else EndedCell) x
    maybe-part true map id x array h = (h.0, maybe-of true map id (σ (i / 8)) array h.1)
    maybe-part false map id x array h = tt

    ended-cell : (cell : CellKind) (x : Cell) → IsOfCell c ρ σ i cell x → IsOfCell n ρ σ i (ended_cell shapes cell) x
    ended-cell BlankCell x h = tt
    ended-cell MixedCell x h = tt
    ended-cell EndedCell x h = tt
    ended-cell ByteCell x h = h
    ended-cell (PartCell Blank) x h = h
    ended-cell (PartCell Mixed) x h = h
    ended-cell (PartCell Ended) x h = h
    ended-cell (PartCell (Num s)) x h = h
    ended-cell (PartCell (CtxAt o)) x h = h
    ended-cell (PartCell (FrameAt o)) x h = h
    ended-cell (PartCell (MapAt map)) x h = h
    ended-cell (PartCell (ValueAt map s)) x h = value-part (is_array_in shapes map) map s x refl h
    ended-cell (PartCell (MaybeNull map id)) x h = maybe-part (is_array_in shapes map) map id x refl h

-- an unlock: what is held of an array stays held, and of any map where the unlock is an inner one
unlock-holds : (s : Store) (run : Run) (map n : ℕ) → (1 < run.depth) ⊎ IsArrayMap (scene_of s run) map →
    IsHeld (scene_of s run) map n → IsHeld (scene_of s (unlocked run)) map n
unlock-holds s run map n stays h = record { element = h.element; born = h.born; in_map = h.in_map; allowed = later stays h.allowed }
  where
    later : (1 < run.depth) ⊎ IsArrayMap (scene_of s run) map → IsGuardedInside (scene_of s run) h.element.life
        ⊎ IsArrayMap (scene_of s run) map → IsGuardedInside (scene_of s (unlocked run)) h.element.life
        ⊎ IsArrayMap (scene_of s (unlocked run)) map
    later (inl deep) (inl g) = inl (omega (arith, deep), g.1)
    later (inr a) g = inr (record { number = a.number; listed = a.listed; array = a.array })
    later deep (inr a) = inr (record { number = a.number; listed = a.listed; array = a.array })

module _ (shapes : List MapShape) (depth : ℕ) (c n : Scene)
    (arrays : (map element : ℕ) → is_array_in shapes map ≡ true → IsHeld c map element → IsHeld n map element)
    (k : depth ≢ 1 → HoldsOn c n) (ρ : Naming) where
  left-of : (kind : Kind) (v : Value) → IsOf c ρ kind v → IsOf n ρ (left_kind shapes depth kind) v
  left-of kind v h = elim (eqb_tells depth 1) [
    | inl (e, outermost) ↦ subst (λ b. IsOf n ρ (if b then ended_kind shapes kind else kind) v) (sym e) (ended-of shapes c n arrays ρ kind v h)
    | inr (e, inner) ↦ subst (λ b. IsOf n ρ (if b then ended_kind shapes kind else kind) v) (sym e) (of-kept c n (k inner) ρ kind v h)
  ]

  left-cell : (σ : Stored) (i : ℕ) (cell : CellKind) (x : Cell) → IsOfCell c ρ σ i cell x → IsOfCell n ρ σ i (left_cell shapes depth cell) x
  left-cell σ i cell x h = elim (eqb_tells depth 1) [
    | inl (e, outermost) ↦ subst (λ b. IsOfCell n ρ σ i (if b then ended_cell shapes cell else cell) x) (sym e) (ended-cell shapes c n arrays ρ σ i cell x h)
    | inr (e, inner) ↦ subst (λ b. IsOfCell n ρ σ i (if b then ended_cell shapes cell else cell) x) (sym e) (cell-kept c n (k inner) ρ σ i cell x h)
  ]

unlock-described : (shapes : List MapShape) (a : AbsState) (s : Store) (run : Run) →
    AreMapsBound shapes run.program.maps s.maps → 0 < a.depth → Describes a (scene_of s run) run.state →
    Describes (after_unlock shapes a) (scene_of s (unlocked run)) (returns Nothing run.state)
unlock-described shapes a s run bound into d =
    let c : Scene = scene_of s run in
    let n : Scene = scene_of s (unlocked run) in
    let same : run.depth ≡ a.depth = d.depth in
    let arrays : (map element : ℕ) → is_array_in shapes map ≡ true → IsHeld c map element → IsHeld n map element =
    λ map element array. unlock-holds s run map element (inr (array-bound shapes s run bound map array)) in
    let k : a.depth ≢ 1 → HoldsOn c n = λ inner map element. unlock-holds s run map element (inl (omega (arith, into, inner, same))) in record {
      naming = d.naming;
      stored = d.stored;
      depth = ap (λ x. x - 1) d.depth;
      near = near-returned Nothing run.state tt d.near;
      regs = λ q. returned-of n d.naming q Blank Nothing (λ r. left_kind shapes a.depth (a.regs r)) run.state tt
          (left-of shapes a.depth c n arrays k d.naming (a.regs q) (run.state.regs q) (d.regs q));
      cells = λ i. left-cell shapes a.depth c n arrays k d.naming d.stored i (a.cells i) (run.state.frame i) (d.cells i);
    }

pub unlock_transfers : (imm : ℤ) (shapes : List MapShape) (ctx_len : ℕ) (a : AbsState) →
    kernel_function_of imm ≡ Some ReadUnlock → 0 < a.depth →
    Transfers (Call kinds.Kernel imm) shapes ctx_len a (after_unlock shapes a) None
unlock_transfers imm shapes ctx_len a f into = record {
  goes = λ s opened run w target d.
      let deep : 0 < run.depth = subst (λ n. 0 < n) (sym d.depth) into in (
        Moved,
        s,
        moves (unlocked run) (returns Nothing run.state),
        of_kind (Call kinds.Kernel imm) s opened run Moved s (moves (unlocked run) (returns Nothing run.state)) (
          subst (λ g. KernelStep g run (moves (unlocked run) (returns Nothing run.state))) (sym f) (deep, refl),
          refl,
          refl,
        ),
      );
  leads = λ s opened run answer new_store new_run w target d step.
      let h = by_kind (Call kinds.Kernel imm) s opened run answer new_store new_run step in
      let k : KernelStep (Some ReadUnlock) run new_run = subst (λ g. KernelStep g run new_run) f h.0 in (
        same-bytes s new_store h.2 w.bytes,
        subst (λ (x : Store). Leads (Call kinds.Kernel imm) (after_unlock shapes a) None run.state.place x new_run) (sym h.2)
            (falls-to (Call kinds.Kernel imm) (after_unlock shapes a) None s (unlocked run)
            (returns Nothing run.state) run.state.place new_run refl refl
            (unlock-described shapes a s run w.bound into d) k.1),
      );
}

-- a lookup: what is found is linked
null-or-held : (s : Store) (run : Run) (map number : ℕ) (key : List ℕ) (found : Option ℕ) → (0 < run.depth)
    ⊎ IsArrayMap (scene_of s run) map → slice_get run.program.maps map ≡ Some number → LooksUp s number key found →
    IsNullOrHeld (scene_of s run) map found
null-or-held s run map number key None may at l = tt
null-or-held s run map number key (Some n) may at l = record {
  element = l.element;
  born = l.born;
  in_map = at ∙ ap Some (sym l.in_map);
  allowed = elim may [
    | inl deep ↦ inl (deep, subst (λ x. IsGuarded x (section_of run)) (sym l.linked) tt)
    | inr a ↦ inr a
  ];
}

lookup-leads : (imm : ℤ) (a : AbsState) (map id : ℕ) (s : Store) (opened : List Section) (run : Run) (ret : Value)
    (new_run : Run) → (0 < run.depth) ⊎ IsArrayMap (scene_of s run) map → a.regs 1 ≡ MapAt map → IsFresh id a →
    (d : Describes a (scene_of s run) run.state) →
    map_argument run ≡ slice_get run.program.maps map → LookupStep s run ret →
    new_run ≡ moves run (returns ret run.state) → Leads (Call kinds.Helper imm) (after_call (MaybeNull map id) a)
    None run.state.place s new_run
lookup-leads imm a map id s opened run ret new_run may e fresh d listed h same =
    let held : IsNullOrHeld (scene_of s run) map h.found = null-or-held s run map h.map h.key h.found may (sym listed ∙ h.map_is) h.looked_up in
    falls-to (Call kinds.Helper imm) (after_call (MaybeNull map id) a) None s run (returns ret run.state) run.state.place new_run refl refl
    (subst (λ v. Describes (after_call (MaybeNull map id) a) (scene_of s run) (returns v run.state)) (sym h.ret_is)
    (named-described a (scene_of s run) run.state map id h.found fresh d held)) same

-- the run is inside a section, or the map is an array
may-look_up : (shapes : List MapShape) (ctx_len : ℕ) (a : AbsState) (map : ℕ) (shape : MapShape) (s : Store)
    (opened : List Section) (run : Run) → Surrounds shapes ctx_len s opened run → a.regs 1 ≡ MapAt map →
    slice_get shapes map ≡ Some shape → run.depth ≡ a.depth →
    (0 < a.depth) ⊎ (shape.kind ≡ Array) → (0 < run.depth) ⊎ IsArrayMap (scene_of s run) map
may-look_up shapes ctx_len a map shape s opened run w e at same (inl into) = inl (subst (λ n. 0 < n) (sym same) into)
may-look_up shapes ctx_len a map shape s opened run w e at same (inr array) = inr (shape-bound shapes s run w.bound map shape at array)

pub lookup_transfers : (imm : ℤ) (shapes : List MapShape) (ctx_len : ℕ) (a : AbsState) (map id : ℕ) (shape : MapShape)
    → helper_of imm ≡ Some helpers.Lookup → (0 < a.depth) ⊎ (shape.kind ≡ Array) → HasMap shapes a map shape →
    HasBytes a 2 shape.key_len → IsFresh id a →
    Transfers (Call kinds.Helper imm) shapes ctx_len a (after_call (MaybeNull map id) a) None
lookup_transfers imm shapes ctx_len a map id shape f may m key fresh = record {
  goes = λ s opened run w target d.
      let b = bound shapes ctx_len s opened run map shape w m.shape_is in
      let k = key-is shapes s run a map shape d m b key in
      let l = looks-up s b.number k.0 in
      let step : LookupStep s run (found_value l.0) = record {
        map = b.number;
        key = k.0;
        found = l.0;
        map_is =
            map-is shapes s run a map shape d m b;
        key_is = k.1;
        looked_up = l.1;
        ret_is = refl;
      } in (
        Moved,
        s,
        moves run (returns (found_value l.0) run.state),
        of_kind (Call kinds.Helper imm) s opened run Moved s (moves run (returns (found_value l.0) run.state)) (
          found_value l.0,
          subst (λ g. HelperStep g s opened run (found_value l.0) s) (sym f) (step, refl),
          refl,
          refl,
        ),
      );
  leads = λ s opened run answer new_store new_run w target d step.
      let h = by_kind (Call kinds.Helper imm) s opened run answer new_store new_run step in
      let k : HelperStep (Some helpers.Lookup) s opened run h.0 new_store = subst (λ g. HelperStep g s opened run h.0 new_store) f h.1 in
      let b = bound shapes ctx_len s opened run map shape w m.shape_is in (
        same-bytes s new_store k.1 w.bytes,
        subst (λ (x : Store). Leads (Call kinds.Helper imm) (after_call (MaybeNull map id) a) None run.state.place x new_run) (sym k.1)
            (lookup-leads imm a map id s opened run h.0 new_run
            (may-look_up shapes ctx_len a map shape s opened run w m.map_is m.shape_is d.depth may) m.map_is fresh
            d (map-listed shapes s run a map shape d m b) k.0 h.3),
      );
}
