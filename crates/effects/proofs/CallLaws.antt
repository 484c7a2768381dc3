-- What a call or a test for null makes of states, by the laws of the known kinds.
use Rattle.bpf_model.proofs.Prelude.{◌≡◌, ℕ, ◌/◌, ◌<◌, List, None, Some, ◌⊎◌, inl, inr, refl, sym, ap, subst, ◌∙◌, ℤ, arith, true, false, signature_of}
use Rattle.bpf_model.proofs.Prelude.{helper_of, kernel_function_of, Bool, ◌==◌, ◌||◌, if◌then◌else◌, pos, nat_le, nat_lt, slice_get, same_Some, ne_eqb}
use Rattle.bpf_model.proofs.Prelude.{lt-leb, lt-ltb}
use Rattle.effects.proofs.Prelude.{RegKind, OutsideSection, IsNull, IsThere, ForksOnNull, PerformsCall, MayLookUp, is_array_of, helper_fault, AreArguments}
use Rattle.effects.proofs.Prelude.{IsLeft}
use Rattle.model_laws.proofs.Prelude.{Array, MapShape, MAX_DEPTH, Insn, Call, JumpIf, Helper, ResultKind, ElementOrNull, Integer, ReadLock, ReadUnlock}
use Rattle.model_laws.proofs.Prelude.{Immediate, Equal, NotEqual, Word64}
use Rattle.plan_laws.proofs.Prelude.{Kind, Blank, Mixed, Ended, Num, CtxAt, FrameAt, MapAt, ValueAt, MaybeNull, CellKind, AbsState, after_call, after_lock}
use Rattle.plan_laws.proofs.Prelude.{after_unlock, is_array, has_array_shape, is_array_in, returned_kind, ended_kind, ended_cell, left_kind, left_cell}
use Rattle.plan_laws.proofs.Prelude.{IsOther, IsOtherCell, IsFresh, HasMap, when_null, when_there, Transfers, AreAlike, number_zero, origin}
use Rattle.register_kinds.proofs.Prelude.{kind_of, cell_of, kind_at, kind_in, class_in, state_of, IsBelow, AreBelow, learnt}
use Rattle.bpf_model.specs.declared.insn.CallKind.TheVariants as callee
use Rattle.bpf_model.specs.declared.call.Helper.TheVariants as helpers
use Rattle.plan_laws.proofs.Planning.{alike_wider, transfers_wider, origin_has, zero_holds, to_alike}
use Rattle.plan_laws.proofs.Arrays.{array-there}
use Rattle.plan_laws.proofs.Calls.{lock_transfers, unlock_transfers, lookup_transfers}
use Rattle.plan_laws.proofs.Updating.{update_transfers, delete_transfers}
use Rattle.plan_laws.proofs.Local.{equal_transfers, not_equal_transfers}
use Rattle.register_kinds.specs.declared.kind.RegKind.TheVariants as kinds
use Rattle.register_kinds.specs.declared.kind.CellKind as classes
use Rattle.register_kinds.specs.declared.kind.CellKind.TheVariants as class
use Rattle.register_kinds.specs.declared.state.AbsState.{AbsState as StateHere}
use Rattle.effects.specs.Calls.{IsResult, KeepsOwnNumbers}

-- a jump where the register is equal to 0, or where it is not
abbrev null_jump : Bool → ℕ → ℤ → Insn
null_jump equal dst offset = JumpIf (if equal then Equal else NotEqual) Word64 dst (Immediate (pos 0)) offset

to-both : (i : Insn) (shapes : List MapShape) (ctx_len : ℕ) (a b c x y : AbsState) → AreAlike b c → AreAlike x y →
    Transfers i shapes ctx_len a b (Some x) → Transfers i shapes ctx_len a c (Some y)
to-both i shapes ctx_len a b c x y e f t = transfers_wider i shapes ctx_len a a b c (Some x) (Some y) (λ c m d. d) (alike_wider b c e) (alike_wider x y f) t

pub lock_sound : (a b : StateHere) → a.depth < MAX_DEPTH → AreAlike (after_lock (state_of a)) (state_of b) →
    (imm : ℤ) (shapes : List MapShape) → kernel_function_of imm ≡ Some ReadLock →
    PerformsCall callee.Kernel imm shapes a b
lock_sound a b out e imm shapes f ctx_len = to_alike (Call callee.Kernel imm) shapes ctx_len (state_of a)
    (after_lock (state_of a)) (state_of b) e (lock_transfers imm shapes ctx_len (state_of a) f out)

pub unlock_sound : (a b : StateHere) (shapes : List MapShape) → 0 < a.depth →
    AreAlike (after_unlock shapes (state_of a)) (state_of b) → (imm : ℤ) → kernel_function_of imm ≡ Some ReadUnlock →
    PerformsCall callee.Kernel imm shapes a b
unlock_sound a b shapes into e imm f ctx_len = to_alike (Call callee.Kernel imm) shapes ctx_len (state_of a)
    (after_unlock shapes (state_of a)) (state_of b) e (unlock_transfers imm shapes ctx_len (state_of a) f into)

-- an identity that isn't taken is nowhere
other-below : (top : ℕ) (k : Kind) → IsBelow top k → IsOther top k
other-below top (MaybeNull map id) b = λ e. omega arith
other-below top Blank b = tt
other-below top Mixed b = tt
other-below top Ended b = tt
other-below top (Num s) b = tt
other-below top (CtxAt s) b = tt
other-below top (FrameAt o) b = tt
other-below top (MapAt map) b = tt
other-below top (ValueAt map s) b = tt

other-cell-below : (top : ℕ) (spill : RegKind) (c : classes.CellKind) → IsBelow top (kind_of spill) → IsOtherCell top (cell_of spill c)
other-cell-below top spill class.Part b = other-below top (kind_of spill) b
other-cell-below top spill class.Unwritten b = tt
other-cell-below top spill class.Ended b = tt
other-cell-below top spill class.Mixed b = tt
other-cell-below top spill class.Byte b = tt

pub untaken_fresh : (top : ℕ) (a : StateHere) → AreBelow top a → IsFresh top (state_of a)
untaken_fresh top a b = record {
  regs = λ r. other-below top (kind_at a.regs r) (b.regs r);
  cells = λ k. other-cell-below top (kind_in a.frame.spills (k / 8)) (class_in a.frame.cells k) (b.spills (k / 8));
}

-- the map in r1 is an array where a lookup is made outside every section
same-map : (a b : ℕ) → MapAt a ≡ MapAt b → a ≡ b
same-map a b e = cc

inside_or_array : (shapes : List MapShape) (a : AbsState) (map : ℕ) (shape : MapShape) → HasMap shapes a map shape →
    MayLookUp shapes a → (0 < a.depth) ⊎ (shape.kind ≡ Array)
inside_or_array shapes a map shape m (inl into) = inl into
inside_or_array shapes a map shape m (inr x) =
    let same : x.0 ≡ map = same-map x.0 map (sym x.1 ∙ m.map_is) in
    let y = array-there shapes x.0 x.2 in
    let here : y.0 ≡ shape = same_Some y.0 shape (sym y.1 ∙ (ap (slice_get shapes) same ∙ m.shape_is)) in
    inr (ap (λ (s : MapShape). s.kind) (sym here) ∙ y.2)

-- each helper transfers where its arguments are those of its signature
helper-transfers : (helper : Helper) (imm : ℤ) (shapes : List MapShape) (ctx_len : ℕ) (a : AbsState) (map id : ℕ)
    (shape : MapShape) (k : RegKind) → ((signature_of helper).result ≡ ElementOrNull → MayLookUp shapes a) →
    HasMap shapes a map shape → AreArguments shapes a shape (signature_of helper).arguments 1 →
    IsFresh id a → IsLeft (signature_of helper).result map id k → helper_of imm ≡ Some helper →
    Transfers (Call callee.Helper imm) shapes ctx_len a (after_call (kind_of k) a) None
helper-transfers helpers.Lookup imm shapes ctx_len a map id shape k may m args fresh left f =
    subst (λ (x : RegKind). Transfers (Call callee.Helper imm) shapes ctx_len a (after_call (kind_of x) a) None)
    (sym left) (lookup_transfers imm shapes ctx_len a map id shape f
    (inside_or_array shapes a map shape m (may refl)) m args.1.0 fresh)
helper-transfers helpers.Update imm shapes ctx_len a map id shape k may m args fresh left f =
    let flags = args.1.1.1.0 in
    subst (λ (x : RegKind). Transfers (Call callee.Helper imm) shapes ctx_len a (after_call (kind_of x) a) None)
    (sym left.1) (update_transfers imm shapes ctx_len a map shape left.0 left.2 m args.1.0 args.1.1.0 flags.0
    flags.1 f)
helper-transfers helpers.Delete imm shapes ctx_len a map id shape k may m args fresh left f =
    subst (λ (x : RegKind). Transfers (Call callee.Helper imm) shapes ctx_len a (after_call (kind_of x) a) None)
    (sym left.1) (delete_transfers imm shapes ctx_len a map shape left.0 left.2 m args.1.0 f)

pub helper_sound : (helper : Helper) (a b : StateHere) (shapes : List MapShape) (map id : ℕ) (shape : MapShape)
    (k : RegKind) → ((signature_of helper).result ≡ ElementOrNull → MayLookUp shapes (state_of a)) →
    HasMap shapes (state_of a) map shape → AreArguments shapes (state_of a) shape (signature_of helper).arguments 1 →
    AreBelow id a → IsLeft (signature_of helper).result map id k →
    AreAlike (after_call (kind_of k) (state_of a)) (state_of b) → (imm : ℤ) → helper_of imm ≡ Some helper →
    PerformsCall callee.Helper imm shapes a b
helper_sound helper a b shapes map id shape k may m args below left e imm f ctx_len =
    to_alike (Call callee.Helper imm) shapes ctx_len (state_of a) (after_call (kind_of k) (state_of a)) (state_of b) e
    (helper-transfers helper imm shapes ctx_len (state_of a) map id shape k may m args (untaken_fresh id a below)
    left f)

pub left_result : (kind : ResultKind) (map id : ℕ) (k : RegKind) (x : Kind) → IsLeft kind map id k → x ≡ kind_of k → IsResult kind x
left_result ElementOrNull map id k x left e = (map, id, e ∙ ap kind_of left)
left_result Integer map id k x left e = (left.0, e ∙ ap kind_of left.1)

-- a lookup inside a section, or in an array, passes the section test
pub lookup_inside : (shapes : List MapShape) (a : AbsState) (map : ℕ) (shape : MapShape) → (0 < a.depth)
    ⊎ (shape.kind ≡ Array) → a.regs 1 ≡ MapAt map → slice_get shapes map ≡ Some shape →
    helper_fault (Some helpers.Lookup) shapes a ≡ None
lookup_inside shapes a map shape (inl into) is at = ap
    (λ (b : Bool). if b || is_array_of shapes (a.regs 1) then None else Some OutsideSection) (lt-ltb 0 a.depth into)
lookup_inside shapes a map shape (inr array) is at =
    ap (λ (b : Bool). if nat_lt 0 a.depth || b then None else Some OutsideSection)
    (ap (is_array_of shapes) is ∙ (ap has_array_shape at ∙ ap is_array array)) ∙ by (nat_lt 0 a.depth)
  where
    by : (b : Bool) → (if b || true then None else Some OutsideSection) ≡ None
    by true = refl
    by false = refl

-- a test for null leads to two states: there the element is, and there it is null
pub null_jumps : (a b taken : StateHere) (id dst map : ℕ) → AreAlike (learnt (IsThere id) (state_of a)) (state_of b) →
    AreAlike (learnt (IsNull id) (state_of a)) (state_of taken) → kind_in a.regs dst ≡ kinds.MaybeNull map id →
    ForksOnNull true dst a b taken
null_jumps a b taken id dst map e f g shapes ctx_len offset =
    to-both (null_jump true dst offset) shapes ctx_len (state_of a) (when_there id origin (state_of a)) (state_of b)
    (when_null id number_zero (state_of a)) (state_of taken) e f
    (equal_transfers shapes ctx_len dst offset map id (state_of a) number_zero origin zero_holds origin_has (ap kind_of g))

pub null_falls_through : (a b taken : StateHere) (id dst map : ℕ) →
    AreAlike (learnt (IsNull id) (state_of a)) (state_of b) →
    AreAlike (learnt (IsThere id) (state_of a)) (state_of taken) → kind_in a.regs dst ≡ kinds.MaybeNull map id →
    ForksOnNull false dst a b taken
null_falls_through a b taken id dst map e f g shapes ctx_len offset =
    to-both (null_jump false dst offset) shapes ctx_len (state_of a) (when_null id number_zero (state_of a))
    (state_of b) (when_there id origin (state_of a)) (state_of taken) e f
    (not_equal_transfers shapes ctx_len dst offset map id (state_of a) number_zero origin zero_holds origin_has (ap kind_of g))

-- a call, a lock and an unlock leave numbers in r6 to r9 as they are
pub returned_above : (kind : Kind) (regs : ℕ → Kind) (r : ℕ) → 5 < r → returned_kind kind regs r ≡ regs r
returned_above kind regs r h = ap (λ t. if t then kind else if nat_le r 5 then Blank else regs r)
    (ne_eqb r 0 (λ q. absurd (omega (arith, q, h)))) ∙ ap (λ t. if t then Blank else regs r) (lt-leb r 5 h)

pub lock_others : (a b : AbsState) → AreAlike (after_lock a) b → KeepsOwnNumbers a b
lock_others a b e r s h n = e.regs r ∙ (returned_above Blank a.regs r h ∙ n)

-- an unlock leaves what is no element, the outermost too
pub left_same : (shapes : List MapShape) (depth : ℕ) (k : Kind) → ended_kind shapes k ≡ k → left_kind shapes depth k ≡ k
left_same shapes depth k e = by (depth == 1)
  where
    by : (b : Bool) → (if b then ended_kind shapes k else k) ≡ k
    by true = e
    by false = refl

pub left_cell_same : (shapes : List MapShape) (depth : ℕ) (k : CellKind) → ended_cell shapes k ≡ k → left_cell shapes depth k ≡ k
left_cell_same shapes depth k e = by (depth == 1)
  where
    by : (b : Bool) → (if b then ended_cell shapes k else k) ≡ k
    by true = e
    by false = refl

pub unlock_others : (shapes : List MapShape) (a b : AbsState) → AreAlike (after_unlock shapes a) b → KeepsOwnNumbers a b
unlock_others shapes a b e r s h n =
    e.regs r ∙ (returned_above Blank (λ r. left_kind shapes a.depth (a.regs r)) r h ∙ ap (left_kind shapes a.depth) n ∙ left_same shapes a.depth (Num s) refl)

-- the tests of a lookup
pub array_of : (shapes : List MapShape) (k : Kind) → is_array_of shapes k ≡ true → (map : ℕ) × (k ≡ MapAt map) × (is_array_in shapes map ≡ true)
array_of shapes (MapAt map) h = (map, refl, h)
array_of shapes Blank h = absurd (cc)
array_of shapes Mixed h = absurd (cc)
array_of shapes Ended h = absurd (cc)
array_of shapes (Num s) h = absurd (cc)
array_of shapes (CtxAt s) h = absurd (cc)
array_of shapes (FrameAt o) h = absurd (cc)
array_of shapes (ValueAt map s) h = absurd (cc)
array_of shapes (MaybeNull map id) h = absurd (cc)
