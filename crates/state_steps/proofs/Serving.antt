-- Parts of guarded lookups and calls that begin or end a section are accepted, and leave what the next part needs.
use Rattle.bpf_model.proofs.Prelude.{◌≡◌, ℕ, ◌+◌, ◌-◌, ◌<◌, ◌≤◌, List, length, Option, Some, None, refl, sym, ap, subst, ◌∙◌, inl, inr, arith, ℤ, pos, Bool}
use Rattle.bpf_model.proofs.Prelude.{true, false, ◌⊎◌, if◌then◌else◌, ◌+ℤ◌, slice_get, Result, IsOk, cases_eq, eq-eqb, false≢true, helper_of}
use Rattle.bpf_model.proofs.Prelude.{kernel_function_of, slice_get_within, region_offset}
use Rattle.effects.proofs.Prelude.{Splits, section_fault, InsnFault, ReadsValue, IsNull, IsThere}
use Rattle.model_laws.proofs.Prelude.{FRAME_BYTES, MapShape, Insn, Alu, Unary, LoadNumber, LoadMap, Jump, JumpLong, JumpIf, Call, Exit, Load, LoadSigned}
use Rattle.model_laws.proofs.Prelude.{Store, AluOp, Add, Move, CallKind, ReadLock, ReadUnlock, Array, Operand, Immediate, Condition, Equal, Width}
use Rattle.model_laws.proofs.Prelude.{SignedWidth, Size, Word64, IsValueLoad, GuardedLookup, LookupPart, FrameCopy, KeyAddress, MapLoad, LookupCall, NullTest}
use Rattle.model_laws.proofs.Prelude.{ValueLoad, part_insn}
use Rattle.plan_laws.proofs.Prelude.{is_call, Kind, Blank, Num, FrameAt, MapAt, ValueAt, MaybeNull, ByteCell, AbsState, with_kind, after_call, after_lock}
use Rattle.plan_laws.proofs.Prelude.{after_unlock, left_kind, left_cell, IsWritten, HasBytes, AreAlike, origin}
use Rattle.register_kinds.proofs.Prelude.{learnt, learnt_kind, kind_of, kind_in, state_of}
use Rattle.register_kinds.proofs.KindLaws.{kind_is}
use Rattle.bpf_model.specs.declared.call.Helper.TheVariants as helpers
use Rattle.bpf_model.specs.declared.insn.CallKind.TheVariants as callee
use Rattle.effects.proofs.CallLaws.{returned_above, left_same, left_cell_same}
use Rattle.effects.specs.Calls.{FindsIn, Called, kernel_fault, outcome_of}
use Rattle.bpf_model.specs.declared.insn.Operand.TheVariants.{Register as RegisterOperand}
use Rattle.register_kinds.specs.Changes.{learnt_cell}
use Rattle.state_steps.specs.Stepped.{IsEqualToNull}
use Rattle.model_laws.specs.PlainMaps.{IsFitting}
use Rattle.scalar_domain.specs.declared.scalar.Scalar.{Scalar}
use Rattle.register_kinds.specs.declared.kind.RegKind.TheVariants as kinds
use Rattle.register_kinds.specs.declared.state.AbsState.{AbsState as StateHere}
use Rattle.state_steps.specs.Facts.{Register, FrameByte, FramePointer, Section}
use Rattle.state_steps.specs.Lookups.{IsKeyWritten, Expects, Prepares, KeepsSaved, IsReadyPart, LeavesPart, IsReadySection, LeavesSection, IsReadyWithMaps}
use Rattle.state_steps.specs.Lookups.{Serves, section_call}
use Rattle.register_kinds.proofs.Setting.{set-there, set-elsewhere}

-- what is ready among instructions that are no part of a lookup, and no call
abbrev pub is_serving : Insn → Bool
is_serving (Alu op size dst src) = true
is_serving (Unary op dst) = false
is_serving (LoadNumber dst n) = false
is_serving (LoadMap dst map) = true
is_serving (Jump offset) = false
is_serving (JumpLong imm) = false
is_serving (JumpIf condition size dst src offset) = true
is_serving (Call kind imm) = true
is_serving Exit = false
is_serving (Load width dst src offset) = true
is_serving (LoadSigned width dst src offset) = true
is_serving (Store width dst offset src) = false

value_load_serving : (shape : MapShape) (i : Insn) → IsValueLoad shape i → is_serving i ≡ true
value_load_serving shape (Alu op size dst src) v = absurd v
value_load_serving shape (Unary op dst) v = absurd v
value_load_serving shape (LoadNumber dst n) v = absurd v
value_load_serving shape (LoadMap dst map) v = absurd v
value_load_serving shape (Jump offset) v = absurd v
value_load_serving shape (JumpLong imm) v = absurd v
value_load_serving shape (JumpIf condition size dst src offset) v = absurd v
value_load_serving shape (Call kind imm) v = absurd v
value_load_serving shape Exit v = absurd v
value_load_serving shape (Load width dst src offset) v = refl
value_load_serving shape (LoadSigned width dst src offset) v = refl
value_load_serving shape (Store width dst offset src) v = absurd v

part_serving : (shapes : List MapShape) (l : GuardedLookup) (p : LookupPart) → IsFitting shapes l → is_serving (part_insn l p) ≡ true
part_serving shapes l FrameCopy f = refl
part_serving shapes l KeyAddress f = refl
part_serving shapes l MapLoad f = refl
part_serving shapes l LookupCall f = refl
part_serving shapes l NullTest f = refl
part_serving shapes l ValueLoad f = value_load_serving l.shape l.load f.in_value

section_serving : (opens : Bool) → is_serving (section_call opens) ≡ true
section_serving true = refl
section_serving false = refl

module _ (shapes : List MapShape) (i : Insn) (idle : is_serving i ≡ false) (a : AbsState) where
  no_part : (l : GuardedLookup) (p : LookupPart) → IsReadyPart shapes l p i a → ⊥
  no_part l p ready = (let e : false ≡ true = sym idle ∙ ap is_serving ready.insn ∙ part_serving shapes l p ready.fitting in absurd cc)

  no_section : (opens : Bool) → IsReadySection opens i a → ⊥
  no_section opens ready = (let e : false ≡ true = sym idle ∙ ap is_serving ready.insn ∙ section_serving opens in absurd cc)

  pub serves_none : (b : AbsState) (taken : Option AbsState) → Serves shapes i a b taken
  serves_none b taken = record { part = λ l p ready. absurd (no_part l p ready); section = λ opens ready. absurd (no_section opens ready) }

  pub never_ready : IsReadyWithMaps shapes i a → ⊥
  never_ready (inl x) = no_part x.0 x.1 x.2
  never_ready (inr x) = no_section x.0 x.1

-- an instruction that is no call begins and ends no section
pub no_section_call : (i : Insn) (opens : Bool) → is_call i ≡ false → i ≡ section_call opens → ⊥
no_section_call i true none e = false≢true (sym none ∙ ap is_call e)
no_section_call i false none e = false≢true (sym none ∙ ap is_call e)

-- what stays for a lookup where one register is set
module _ (dst : ℕ) (kind : Kind) (a b : AbsState) (e : AreAlike (with_kind dst kind a) b) where
  pub key_kept : (l : GuardedLookup) → IsKeyWritten l a → IsKeyWritten l b
  key_kept l w k p q = e.cells k ∙ w k p q

  -- one that calls may change
  pub set_saves : dst ≤ 5 → KeepsSaved a b
  set_saves low (Register r) s h = (h.0, set-elsewhere dst r kind a b e (λ p. let q : r ≡ dst = p in absurd (omega (arith, q, low, s))) ∙ h.1)
  set_saves low (FrameByte k) s h = e.cells k ∙ h
  set_saves low FramePointer s h = set-elsewhere dst 10 kind a b e (λ p. let q : 10 ≡ dst = p in absurd (omega (arith, q, low))) ∙ h
  set_saves low (Section inside) s h = absurd s

-- a number that is loaded into a register below r10 leaves what is saved over calls
pub load_saves : (dst : ℕ) (n : Scalar) (a b : AbsState) → (dst ≤ 9) → AreAlike (with_kind dst (Num n) a) b → KeepsSaved a b
load_saves dst n a b high e (Register r) s h = elim (cases_eq r dst) [
  | inl p ↦ (n, subst (λ q. b.regs q ≡ Num n) (sym p) (set-there dst dst (Num n) a b e refl))
  | inr m ↦ (h.0, set-elsewhere dst r (Num n) a b e m ∙ h.1)
]
load_saves dst n a b high e (FrameByte k) s h = e.cells k ∙ h
load_saves dst n a b high e FramePointer s h = set-elsewhere dst 10 (Num n) a b e (λ p. let q : 10 ≡ dst = p in absurd (omega (arith, q, high))) ∙ h
load_saves dst n a b high e (Section inside) s h = absurd s

-- operations: the copy of r10, and the key's address
module _ (op : AluOp) (size : Size) (dst : ℕ) (src : Operand) (a : StateHere) (R : Kind → Type 0)
    (copies : (s : ℕ) → op ≡ Move → size ≡ Word64 → src ≡ RegisterOperand s → (10 ≡ dst → ⊥) →
    IsWritten (kind_of (kind_in a.regs s)) → R (kind_of (kind_in a.regs s)))
    (frame : (m at : ℕ) (imm : ℤ) → op ≡ Add → size ≡ Word64 → src ≡ Immediate imm → (10 ≡ dst → ⊥) →
    kind_in a.regs dst ≡ kinds.Frame (pos m) → m ≤ FRAME_BYTES → at ≤ FRAME_BYTES → pos m +ℤ imm ≡ pos at →
    R (FrameAt (pos at))) where
  -- it sets r2, to the one or to the other
  abbrev pub SetsByPart : GuardedLookup → LookupPart → Type 0
  SetsByPart l p = (dst ≡ 2) × (((p ≡ FrameCopy) × R (FrameAt (pos FRAME_BYTES))) ⊎ ((p ≡ KeyAddress) × R (FrameAt (pos l.at))))

  copied : (l : GuardedLookup) → Alu op size dst src ≡ part_insn l FrameCopy → (state_of a).regs 10 ≡ FrameAt (pos FRAME_BYTES) → SetsByPart l FrameCopy
  copied l e f =
      let d : dst ≡ 2 = cc in
      let o : op ≡ Move = cc in
      let z : size ≡ Word64 = cc in
      let s : src ≡ RegisterOperand 10 = cc in
      let w : IsWritten (kind_of (kind_in a.regs 10)) = subst IsWritten (sym f) tt in
      (d, inl (refl, subst R f (copies 10 o z s (λ p. let q : 10 ≡ 2 = p ∙ d in absurd (omega (arith, q))) w)))

  addressed : (shapes : List MapShape) (l : GuardedLookup) → IsFitting shapes l →
      Alu op size dst src ≡ part_insn l KeyAddress → (state_of a).regs 2 ≡ FrameAt (pos FRAME_BYTES) →
      SetsByPart l KeyAddress
  addressed shapes l fit e f =
      let d : dst ≡ 2 = cc in
      let o : op ≡ Add = cc in
      let z : size ≡ Word64 = cc in
      let s : src ≡ Immediate l.offset = cc in
      let k = kind_is (kind_in a.regs 2) (FrameAt (pos FRAME_BYTES)) f in (
        d,
        inr (
          refl,
          frame FRAME_BYTES l.at l.offset o z s (λ p. let q : 10 ≡ 2 = p ∙ d in absurd (omega (arith, q)))
              (ap (kind_in a.regs) d ∙ k) (omega arith) (omega (arith, fit.in_frame.1)) fit.in_frame.0,
        ),
      )

  pub alu_part : (shapes : List MapShape) (l : GuardedLookup) (p : LookupPart) → IsReadyPart shapes l p (Alu op size dst src) (state_of a) → SetsByPart l p
  alu_part shapes l FrameCopy ready = copied l ready.insn ready.frame
  alu_part shapes l KeyAddress ready = addressed shapes l ready.fitting ready.insn ready.expects.1
  alu_part shapes l MapLoad ready = (let e = ready.insn in absurd cc)
  alu_part shapes l LookupCall ready = (let e = ready.insn in absurd cc)
  alu_part shapes l NullTest ready = (let e = ready.insn in absurd cc)
  alu_part shapes l ValueLoad ready = absurd (subst (IsValueLoad l.shape) (sym ready.insn) ready.fitting.in_value)

  pub alu_ready : (shapes : List MapShape) → ((k : Kind) → R k → ⊥) → IsReadyWithMaps shapes (Alu op size dst src) (state_of a) → ⊥
  alu_ready shapes never (inl x) = elim (alu_part shapes x.0 x.1 x.2).1
      [ inl h ↦ never (FrameAt (pos FRAME_BYTES)) h.1 | inr h ↦ never (FrameAt (pos x.0.at)) h.1 ]
  alu_ready shapes never (inr x) = no_section_call (Alu op size dst src) x.0 refl x.1.insn

  pub alu_serves : (shapes : List MapShape) (b : AbsState) →
      ((k : Kind) → R k → AreAlike (with_kind dst k (state_of a)) b) →
      Serves shapes (Alu op size dst src) (state_of a) b None
  alu_serves shapes b alike = record {
    part = λ l p ready. leaves l p ready (alu_part shapes l p ready);
    section = λ opens ready. absurd (no_section_call (Alu op size dst src) opens refl ready.insn);
  }
    where
      made : (k : Kind) → R k → dst ≡ 2 → AreAlike (with_kind 2 k (state_of a)) b
      made k r d = subst (λ n. AreAlike (with_kind n k (state_of a)) b) d (alike k r)

      written : (l : GuardedLookup) (p : LookupPart) → (p ≡ FrameCopy) ⊎ (p ≡ KeyAddress) → Expects l p (state_of a) → IsKeyWritten l (state_of a)
      written l FrameCopy h x = x
      written l KeyAddress h x = x.0
      written l MapLoad h x = x.0
      written l LookupCall h x = x.0
      written l NullTest h x = elim h [ inl q ↦ absurd cc | inr q ↦ absurd cc ]
      written l ValueLoad h x = elim h [ inl q ↦ absurd cc | inr q ↦ absurd cc ]

      leaves : (l : GuardedLookup) (p : LookupPart) → IsReadyPart shapes l p (Alu op size dst src) (state_of a) →
          SetsByPart l p → LeavesPart l p (state_of a) b None
      leaves l p ready (d, inl h) =
          let k = FrameAt (pos FRAME_BYTES) in
          let e = made k h.1 d in record {
            keeps = set_saves 2 k (state_of a) b e (omega arith);
            depth = e.depth;
            prepares = subst (λ p. Prepares l p b) (sym h.0) (
              key_kept 2 k (state_of a) b e l (written l p (inl h.0) ready.expects),
              set-there 2 2 k (state_of a) b e refl,
            );
            keeps_taken = tt;
          }
      leaves l p ready (d, inr h) =
          let k = FrameAt (pos l.at) in
          let e = made k h.1 d in record {
            keeps = set_saves 2 k (state_of a) b e (omega arith);
            depth = e.depth;
            prepares = subst (λ p. Prepares l p b) (sym h.0) (
              key_kept 2 k (state_of a) b e l (written l p (inr h.0) ready.expects),
              set-there 2 2 k (state_of a) b e refl,
            );
            keeps_taken = tt;
          }

-- the load of a map
map_load : (dst : ℕ) (map : ℤ) (l : GuardedLookup) → LoadMap dst map ≡ part_insn l MapLoad → (dst ≡ 1) × (map ≡ pos l.map)
map_load dst map l e = (cc, cc)

module _ (dst : ℕ) (map : ℤ) (shapes : List MapShape) (a : AbsState) (R : Kind → Type 0)
    (sets : (n : ℕ) → (10 ≡ dst → ⊥) → map ≡ pos n → n < length shapes → R (MapAt n)) where
  map_part : (l : GuardedLookup) (p : LookupPart) → IsReadyPart shapes l p (LoadMap dst map) a → (p ≡ MapLoad) × (dst ≡ 1) × R (MapAt l.map)
  map_part l FrameCopy ready = (let e = ready.insn in absurd cc)
  map_part l KeyAddress ready = (let e = ready.insn in absurd cc)
  map_part l MapLoad ready =
      let e = map_load dst map l ready.insn in
      (refl, e.0, sets l.map (λ p. let q : 10 ≡ 1 = p ∙ e.0 in absurd (omega (arith, q))) e.1 (slice_get_within shapes l.map l.shape ready.fitting.in_list))
  map_part l LookupCall ready = (let e = ready.insn in absurd cc)
  map_part l NullTest ready = (let e = ready.insn in absurd cc)
  map_part l ValueLoad ready = absurd (subst (IsValueLoad l.shape) (sym ready.insn) ready.fitting.in_value)

  pub map_serves : (b : AbsState) → ((k : Kind) → R k → AreAlike (with_kind dst k a) b) → Serves shapes (LoadMap dst map) a b None
  map_serves b alike = record {
    part = λ l p ready. leaves l p ready (map_part l p ready);
    section = λ opens ready. absurd (no_section_call (LoadMap dst map) opens refl ready.insn);
  }
    where
      leaves : (l : GuardedLookup) (p : LookupPart) → IsReadyPart shapes l p (LoadMap dst map) a → (p ≡ MapLoad) ×
          (dst ≡ 1) × R (MapAt l.map) → LeavesPart l p a b None
      leaves l p ready (h, d, r) =
          let k = MapAt l.map in
          let e : AreAlike (with_kind 1 k a) b = subst (λ n. AreAlike (with_kind n k a) b) d (alike k r) in
          let x : Expects l MapLoad a = subst (λ p. Expects l p a) h ready.expects in
          let before : b.regs 2 ≡ a.regs 2 = set-elsewhere 1 2 k a b e (λ q. absurd (omega (arith, q))) in record {
            keeps = set_saves 1 k a b e (omega arith);
            depth = e.depth;
            prepares = subst (λ p. Prepares l p b) (sym h) (key_kept 1 k a b e l x.0, before ∙ x.1, set-there 1 1 k a b e refl);
            keeps_taken = tt;
          }

-- a call leaves what is saved over calls
call_saves : (kind : Kind) (a b : AbsState) → AreAlike (after_call kind a) b → KeepsSaved a b
call_saves kind a b e (Register r) s h = (h.0, e.regs r ∙ returned_above kind a.regs r s ∙ h.1)
call_saves kind a b e (FrameByte k) s h = e.cells k ∙ h
call_saves kind a b e FramePointer s h = e.regs 10 ∙ h
call_saves kind a b e (Section inside) s h = absurd s

lock_saves : (a b : AbsState) → AreAlike (after_lock a) b → KeepsSaved a b
lock_saves a b e (Register r) s h = (h.0, e.regs r ∙ returned_above Blank a.regs r s ∙ h.1)
lock_saves a b e (FrameByte k) s h = e.cells k ∙ h
lock_saves a b e FramePointer s h = e.regs 10 ∙ h
lock_saves a b e (Section inside) s h = absurd s

unlock_saves : (shapes : List MapShape) (a b : AbsState) → AreAlike (after_unlock shapes a) b → KeepsSaved a b
unlock_saves shapes a b e (Register r) s h = (
  h.0,
  e.regs r ∙ returned_above Blank (λ r. left_kind shapes a.depth (a.regs r)) r s ∙
      ap (left_kind shapes a.depth) h.1 ∙ left_same shapes a.depth (Num h.0) refl,
)
unlock_saves shapes a b e (FrameByte k) s h = e.cells k ∙ ap (left_cell shapes a.depth) h ∙ left_cell_same shapes a.depth ByteCell refl
unlock_saves shapes a b e FramePointer s h = e.regs 10 ∙ ap (left_kind shapes a.depth) h ∙ left_same shapes a.depth (FrameAt (pos FRAME_BYTES)) refl
unlock_saves shapes a b e (Section inside) s h = absurd s

key_bytes : (shapes : List MapShape) (l : GuardedLookup) (a : AbsState) → IsFitting shapes l → Expects l LookupCall a → HasBytes a 2 l.shape.key_len
key_bytes shapes l a fit x = record { at = l.at; frame = x.1; inside = fit.in_frame.2; bytes = x.0 }

-- what is said of a call that is not refused
pub record CallLeaves (kind : CallKind) (imm : ℤ) (shapes : List MapShape) (a b : StateHere) : Type 0 where
  pub finds : (map : ℕ) → kind ≡ callee.Helper → helper_of imm ≡ Some helpers.Lookup → kind_in a.regs 1 ≡ kinds.Map map → FindsIn map a b
  pub called : kind ≡ callee.Kernel → Called (kernel_function_of imm) shapes (state_of a) (state_of b)

-- the calls that are not refused but for want of memory
pub record CallAccepts (kind : CallKind) (imm : ℤ) (shapes : List MapShape) (a : StateHere) (result : Result (Unit {0}) InsnFault) : Type 0 where
  pub kernel : kind ≡ callee.Kernel → result ≡ outcome_of (section_fault kind imm shapes (state_of a))
  pub lookup : (map : ℕ) (shape : MapShape) → kind ≡ callee.Helper → helper_of imm ≡ Some helpers.Lookup →
      (0 < a.depth) ⊎ (shape.kind ≡ Array) → kind_in a.regs 1 ≡ kinds.Map map
      → slice_get shapes map ≡ Some shape → HasBytes (state_of a) 2 shape.key_len → IsOk result

module _ (kind : CallKind) (imm : ℤ) (shapes : List MapShape) (a : StateHere) where
  call_part : (l : GuardedLookup) (p : LookupPart) → IsReadyPart shapes l p (Call kind imm) (state_of a) →
      (p ≡ LookupCall) × (kind ≡ callee.Helper) × (imm ≡ pos 1)
  call_part l FrameCopy ready = (let e = ready.insn in absurd cc)
  call_part l KeyAddress ready = (let e = ready.insn in absurd cc)
  call_part l MapLoad ready = (let e = ready.insn in absurd cc)
  call_part l LookupCall ready = (let e = ready.insn in (refl, cc, cc))
  call_part l NullTest ready = (let e = ready.insn in absurd cc)
  call_part l ValueLoad ready = absurd (subst (IsValueLoad l.shape) (sym ready.insn) ready.fitting.in_value)

  lookup_number : imm ≡ pos 1 → helper_of imm ≡ Some helpers.Lookup
  lookup_number e = ap helper_of e

  section_is : (opens : Bool) → IsReadySection opens (Call kind imm) (state_of a) → (kind ≡ callee.Kernel) × (imm ≡ (if opens then pos 1 else pos 2))
  section_is true ready = (let e = ready.insn in (cc, cc))
  section_is false ready = (let e = ready.insn in (cc, cc))

  called_map : (l : GuardedLookup) (p : LookupPart) (ready : IsReadyPart shapes l p (Call kind imm) (state_of a)) →
      p ≡ LookupCall → kind_in a.regs 1 ≡ kinds.Map l.map
  called_map l p ready h = let x : Expects l LookupCall (state_of a) =
      subst (λ p. Expects l p (state_of a)) h ready.expects in kind_is (kind_in a.regs 1) (MapAt l.map) x.2

  pub call_ready : (result : Result (Unit {0}) InsnFault) → CallAccepts kind imm shapes a result →
      IsReadyWithMaps shapes (Call kind imm) (state_of a) → IsOk result
  call_ready result accepts (inl (l, p, ready)) =
      let e = call_part l p ready in
      let x : Expects l LookupCall (state_of a) = subst (λ p. Expects l p (state_of a)) e.0 ready.expects in
      accepts.lookup l.map l.shape e.1 (lookup_number e.2) (inl ready.inside) (called_map l p ready e.0)
      ready.fitting.in_list (key_bytes shapes l (state_of a) ready.fitting x)
  call_ready result accepts (inr (true, ready)) =
      let e = section_is true ready in
      let f : result ≡ outcome_of (kernel_fault (Some ReadLock) 0) = accepts.kernel e.0 ∙ ap (λ k. outcome_of (section_fault k imm shapes (state_of a))) e.0
      ∙ ap (λ z. outcome_of (kernel_fault (kernel_function_of z) a.depth)) e.1 ∙ ap (λ t. outcome_of (kernel_fault (Some ReadLock) t)) ready.before in
      subst IsOk (sym f) refl
  call_ready result accepts (inr (false, ready)) =
      let e = section_is false ready in
      let f : result ≡ outcome_of (kernel_fault (Some ReadUnlock) 1) = accepts.kernel e.0 ∙ ap (λ k. outcome_of (section_fault k imm shapes (state_of a))) e.0
      ∙ ap (λ z. outcome_of (kernel_fault (kernel_function_of z) a.depth)) e.1 ∙ ap (λ t. outcome_of (kernel_fault (Some ReadUnlock) t)) ready.before in
      subst IsOk (sym f) refl

  pub call_serves : (b : StateHere) → CallLeaves kind imm shapes a b → Serves shapes (Call kind imm) (state_of a) (state_of b) None
  call_serves b done = record { part = leaves; section = ends }
    where
      leaves : (l : GuardedLookup) (p : LookupPart) → IsReadyPart shapes l p (Call kind imm) (state_of a) → LeavesPart l p (state_of a) (state_of b) None
      leaves l p ready =
          let e = call_part l p ready in
          let f = done.finds l.map e.1 (lookup_number e.2) (called_map l p ready e.0) in record {
            keeps = call_saves (MaybeNull l.map f.id) (state_of a) (state_of b) f.alike;
            depth = f.alike.depth;
            prepares = subst (λ p. Prepares l p (state_of b)) (sym e.0) (f.id, f.alike.regs 0);
            keeps_taken = tt;
          }

      ends : (opens : Bool) → IsReadySection opens (Call kind imm) (state_of a) → LeavesSection opens (state_of a) (state_of b)
      ends true ready =
          let e = section_is true ready in
          let f : AreAlike (after_lock (state_of a)) (state_of b) =
          subst (λ z. Called (kernel_function_of z) shapes (state_of a) (state_of b)) e.1 (done.called e.0) in
          (lock_saves (state_of a) (state_of b) f, f.depth ∙ ap (λ n. n + 1) ready.before)
      ends false ready =
          let e = section_is false ready in
          let f : AreAlike (after_unlock shapes (state_of a)) (state_of b) =
          subst (λ z. Called (kernel_function_of z) shapes (state_of a) (state_of b)) e.1 (done.called e.0) in
          (unlock_saves shapes (state_of a) (state_of b) f, f.depth ∙ ap (λ n. n - 1) ready.before)

-- a test for null
null_saves : (id : ℕ) (a b : AbsState) → AreAlike (learnt (IsNull id) a) b → KeepsSaved a b
null_saves id a b e (Register r) s h = (h.0, e.regs r ∙ ap (learnt_kind (IsNull id)) h.1)
null_saves id a b e (FrameByte k) s h = e.cells k ∙ ap (learnt_cell (IsNull id)) h
null_saves id a b e FramePointer s h = e.regs 10 ∙ ap (learnt_kind (IsNull id)) h
null_saves id a b e (Section inside) s h = absurd s

there_saves : (id : ℕ) (a b : AbsState) → AreAlike (learnt (IsThere id) a) b → KeepsSaved a b
there_saves id a b e (Register r) s h = (h.0, e.regs r ∙ ap (learnt_kind (IsThere id)) h.1)
there_saves id a b e (FrameByte k) s h = e.cells k ∙ ap (learnt_cell (IsThere id)) h
there_saves id a b e FramePointer s h = e.regs 10 ∙ ap (learnt_kind (IsThere id)) h
there_saves id a b e (Section inside) s h = absurd s

there_here : (map id : ℕ) (k : Kind) → k ≡ MaybeNull map id → learnt_kind (IsThere id) k ≡ ValueAt map origin
there_here map id k e = ap (learnt_kind (IsThere id)) e ∙ ap (λ t. if t then ValueAt map origin else MaybeNull map id) (eq-eqb id id refl)

module _ (condition : Condition) (size : Size) (dst : ℕ) (src : Operand) (offset : ℤ) (shapes : List MapShape) (a : StateHere) where
  branch_part : (l : GuardedLookup) (p : LookupPart) →
      IsReadyPart shapes l p (JumpIf condition size dst src offset) (state_of a) → (p ≡ NullTest) × (dst ≡ 0) ×
      ((id : ℕ) × IsEqualToNull condition size dst src l.map id a)
  branch_part l FrameCopy ready = (let e = ready.insn in absurd cc)
  branch_part l KeyAddress ready = (let e = ready.insn in absurd cc)
  branch_part l MapLoad ready = (let e = ready.insn in absurd cc)
  branch_part l LookupCall ready = (let e = ready.insn in absurd cc)
  branch_part l NullTest ready =
      let e = ready.insn in
      let d : dst ≡ 0 = cc in
      let c : condition ≡ Equal = cc in
      let z : size ≡ Word64 = cc in
      let s : src ≡ Immediate (pos 0) = cc in (
        refl,
        d,
        (
          ready.expects.0,
          record {
            condition_is = c;
            size_is = z;
            src_is = s;
            kind = ap (kind_in a.regs) d ∙
                kind_is (kind_in a.regs 0) (MaybeNull l.map ready.expects.0) ready.expects.1;
          },
        ),
      )
  branch_part l ValueLoad ready = absurd (subst (IsValueLoad l.shape) (sym ready.insn) ready.fitting.in_value)

  pub branch_ready : IsReadyWithMaps shapes (JumpIf condition size dst src offset) (state_of a) → (map id : ℕ) × IsEqualToNull condition size dst src map id a
  branch_ready (inl x) = let r = (branch_part x.0 x.1 x.2).2 in (x.0.map, r.0, r.1)
  branch_ready (inr x) = absurd (no_section_call (JumpIf condition size dst src offset) x.0 refl x.1.insn)

  pub branch_serves : (b t : StateHere) → ((map id : ℕ) → IsEqualToNull condition size dst src map id a →
      Splits id a t b) → Serves shapes (JumpIf condition size dst src offset) (state_of a) (state_of b)
      (Some (state_of t))
  branch_serves b t splits = record {
    part = λ l p ready. leaves l p ready (branch_part l p ready);
    section = λ opens ready. absurd (no_section_call (JumpIf condition size dst src offset) opens refl ready.insn);
  }
    where
      leaves : (l : GuardedLookup) (p : LookupPart) → IsReadyPart shapes l p (JumpIf condition size dst src offset)
          (state_of a) → (p ≡ NullTest) × (dst ≡ 0) × ((id : ℕ) × IsEqualToNull condition size dst src l.map id a)
          → LeavesPart l p (state_of a) (state_of b) (Some (state_of t))
      leaves l p ready (h, d, (id, test)) =
          let s = splits l.map id test in
          let k : (state_of a).regs 0 ≡ MaybeNull l.map id = subst (λ r. (state_of a).regs r ≡ MaybeNull l.map id) d (ap kind_of test.kind) in record {
            keeps = there_saves id (state_of a) (state_of b) s.is_there;
            depth = s.is_there.depth;
            prepares = subst (λ p. Prepares l p (state_of b)) (sym h) (
              origin,
              s.is_there.regs 0 ∙ there_here l.map id ((state_of a).regs 0) k,
              record { least = refl; greatest = refl },
            );
            keeps_taken = (null_saves id (state_of a) (state_of t) s.is_null, s.is_null.depth);
          }

-- a load from the value
module _ (i : Insn) (dst base width : ℕ) (offset : ℤ) (shapes : List MapShape) (a : StateHere)
    (is_load : (shape : MapShape) → IsValueLoad shape i → (base ≡ 0) × (6 ≤ dst) × (dst ≤ 9) × (at : ℕ) ×
    (region_offset shape.value_len width offset ≡ Some at))
    (no_other : (l : GuardedLookup) (p : LookupPart) → i ≡ part_insn l p → p ≡ ValueLoad) (no_call : (opens : Bool) → i ≡ (section_call opens) → ⊥) where
  -- what is read, into r6 to r9
  abbrev pub LoadsByPart : GuardedLookup → LookupPart → Type 0
  LoadsByPart l p = (p ≡ ValueLoad) × (dst ≤ 9) × (10 ≡ dst → ⊥) × ReadsValue shapes a base l.map width offset

  load_part : (l : GuardedLookup) (p : LookupPart) → IsReadyPart shapes l p i (state_of a) → LoadsByPart l p
  load_part l p ready =
      let h = no_other l p ready.insn in
      let e : i ≡ l.load = ready.insn ∙ ap (part_insn l) h in
      let v = is_load l.shape (subst (IsValueLoad l.shape) (sym e) ready.fitting.in_value) in
      let x : Expects l ValueLoad (state_of a) = subst (λ p. Expects l p (state_of a)) h ready.expects in (
        h,
        v.2,
        (λ p. let q : 10 ≡ dst = p in omega (arith, q, v.2)),
        record {
          shape = l.shape;
          shape_is = ready.fitting.in_list;
          offsets = x.0;
          base = ap (kind_in a.regs) v.0 ∙ kind_is (kind_in a.regs 0) (ValueAt l.map x.0) x.1;
          start = x.2;
          at = v.3;
          inside = v.4;
        },
      )

  pub load_ready_maps : IsReadyWithMaps shapes i (state_of a) → (10 ≡ dst → ⊥) × ((map : ℕ) × ReadsValue shapes a base map width offset)
  load_ready_maps (inl x) = let r = load_part x.0 x.1 x.2 in (r.2, (x.0.map, r.3))
  load_ready_maps (inr x) = absurd (no_call x.0 x.1.insn)

  pub load_serves : (b : AbsState) → ((map : ℕ) → (10 ≡ dst → ⊥) → ReadsValue shapes a base map width offset →
      (n : Scalar) × AreAlike (with_kind dst (Num n) (state_of a)) b) → Serves shapes i (state_of a) b None
  load_serves b loads = record {
    part = λ l p ready. leaves l p (load_part l p ready);
    section = λ opens ready. absurd (no_call opens ready.insn);
  }
    where
      leaves : (l : GuardedLookup) (p : LookupPart) → LoadsByPart l p → LeavesPart l p (state_of a) b None
      leaves l p (h, high, ne, reads) =
          let n = loads l.map ne reads in record {
            keeps = load_saves dst n.0 (state_of a) b high n.1;
            depth = n.1.depth;
            prepares = subst (λ p. Prepares l p b) (sym h) tt;
            keeps_taken = tt;
          }

pub load_no_other : (width : Width) (dst base : ℕ) (offset : ℤ) (l : GuardedLookup) (p : LookupPart) →
    Load width dst base offset ≡ part_insn l p → p ≡ ValueLoad
load_no_other width dst base offset l FrameCopy e = absurd cc
load_no_other width dst base offset l KeyAddress e = absurd cc
load_no_other width dst base offset l MapLoad e = absurd cc
load_no_other width dst base offset l LookupCall e = absurd cc
load_no_other width dst base offset l NullTest e = absurd cc
load_no_other width dst base offset l ValueLoad e = refl

pub signed_no_other : (width : SignedWidth) (dst base : ℕ) (offset : ℤ) (l : GuardedLookup) (p : LookupPart) →
    LoadSigned width dst base offset ≡ part_insn l p → p ≡ ValueLoad
signed_no_other width dst base offset l FrameCopy e = absurd cc
signed_no_other width dst base offset l KeyAddress e = absurd cc
signed_no_other width dst base offset l MapLoad e = absurd cc
signed_no_other width dst base offset l LookupCall e = absurd cc
signed_no_other width dst base offset l NullTest e = absurd cc
signed_no_other width dst base offset l ValueLoad e = refl
