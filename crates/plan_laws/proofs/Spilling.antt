-- References in the frame: a group of eight cells holds what was stored there last.
use Rattle.bpf_model.proofs.Prelude.{◌≡◌, ◌≢◌, ℕ, zero, suc, ◌+◌, ◌-◌, ◌*◌, ◌<◌, ◌≤◌, ◌^◌, ◌%◌, ◌/◌, List, Option, Some, None, ◌⊎◌, inl, inr, refl, sym, ap}
use Rattle.bpf_model.proofs.Prelude.{subst, ◌∙◌, ℤ, pos, negsuc, arith, Bool, true, false, if◌then◌else◌, ◌==◌, ◌&&◌, ◌+ℤ◌, nat_le, nat_lt, int_eq, cases_lt}
use Rattle.bpf_model.proofs.Prelude.{eq-eqb, ne_eqb, le-leb, lt-leb, lt-ltb, le-ltb, eqb-true, Decides-int_eq, none-some, same_Some, div-le_self, ◌>>=◌}
use Rattle.bpf_model.proofs.Prelude.{region_offset, number_at, byte_of, is_same_reference, is_part, are_parts, found, read, is_within, State, Outcome, Moves}
use Rattle.bpf_model.proofs.Prelude.{put, sets, load_from, frame_after, store_to, Element, Run, environment, found_value, AllBytes, choice}
use Rattle.model_laws.proofs.Prelude.{FRAME_BYTES, MapShape, Load, Store, Register, Eight, Value, Nothing, Number, Pointer, Reference, Ctx, Frame, MapRef}
use Rattle.model_laws.proofs.Prelude.{Elem, Cell, Byte, Part, HoldsValue, IsOwn, element_load, element_store, IsNear, IsNearCell}
use Rattle.plan_laws.proofs.Prelude.{Kind, Blank, Mixed, Ended, Num, CtxAt, FrameAt, MapAt, ValueAt, MaybeNull, CellKind, BlankCell, MixedCell, EndedCell}
use Rattle.plan_laws.proofs.Prelude.{ByteCell, PartCell, AbsState, Scene, scene_of, Naming, IsOf, Stored, part_of, IsOfCell, AreNear, Describes, with_kind}
use Rattle.plan_laws.proofs.Prelude.{with_cells, IsWritten, IsPointer, Transfers}
use Rattle.model_laws.proofs.Alone.{load-own, store-own}
use Rattle.bpf_model.specs.MapState.{Store as Maps}
use Rattle.plan_laws.proofs.Sets.{set-described}
use Rattle.plan_laws.proofs.Arguments.{reg-is, cell-is}
use Rattle.plan_laws.proofs.Local.{Acting, no-call, acts-transfers, by-itself}
use Rattle.plan_laws.proofs.Elements.{set-is}

-- an access of eight bytes begins at a multiple of 8
both-true : (a b : Bool) (o at : ℕ) → (if a && b then Some o else None) ≡ Some at → (b ≡ true) × (o ≡ at)
both-true true true o at h = (refl, same_Some o at h)
both-true true false o at h = absurd (none-some at h)
both-true false b o at h = absurd (none-some at h)

aligned : (o : ℤ) (at : ℕ) → region_offset FRAME_BYTES 8 o ≡ Some at → at % 8 ≡ 0
aligned (pos o) at h =
    let x = both-true (nat_le (o + 8) FRAME_BYTES) (o % 8 == 0) o at h in
    let m : o % 8 ≡ 0 = eqb-true _ _ x.0 in
    let e : o ≡ at = x.1 in
    omega arith
aligned (negsuc o) at h = absurd (none-some at h)

-- the cells from a multiple of 8 on, up to 8 of them, are its group
abbrev Where : ℕ → ℕ → Type 0
Where at k = ((is_within at 8 k ≡ true) × (k / 8 ≡ at / 8) × (k - at ≡ k % 8)) ⊎ ((is_within at 8 k ≡ false) × (k / 8 ≡ at / 8 → ⊥))

in-group : (at k : ℕ) → at % 8 ≡ 0 → Where at k
in-group at k e = elim (cases_lt k at) [
  | inl l ↦ inr (ap (λ t. t && nat_lt k (at + 8)) (lt-leb at k l), λ f. omega arith)
  | inr l ↦ elim (cases_lt k (at + 8)) [
    | inl m ↦ inl (ap (λ t. t && nat_lt k (at + 8)) (le-leb at k l) ∙ lt-ltb k (at + 8) m, omega arith, omega arith)
    | inr m ↦ inr (ap (λ t. t && nat_lt k (at + 8)) (le-leb at k l) ∙ le-ltb k (at + 8) m, λ f. omega arith)
  ]
]

-- the frame after a value was stored
abbrev with_value : ℕ → Value → (ℕ → Cell) → ℕ → Cell
with_value at v frame k = if is_within at 8 k then part_of (k - at) v else frame k

frame-is : (at : ℕ) (v : Value) (frame : ℕ → Cell) → v ≢ Nothing → frame_after at 8 v frame ≡ Some (with_value at v frame)
frame-is at Nothing frame h = absurd (h refl)
frame-is at (Number n) frame h = refl
frame-is at (Pointer r) frame h = refl

number-not : (n : ℕ) (v : Value) → v ≡ Number n → v ≡ Nothing → ⊥
number-not n v f e = cc

pointer-not : (r : Reference) (v : Value) → v ≡ Pointer r → v ≡ Nothing → ⊥
pointer-not r v f e = cc

found-not : (o : Option ℕ) (v : Value) → v ≡ found_value o → v ≡ Nothing → ⊥
found-not None v f e = number-not 0 v f e
found-not (Some n) v f e = pointer-not (Elem n (pos 0)) v f e

written : (c : Scene) (ρ : Naming) (k : Kind) (v : Value) → IsWritten k → IsOf c ρ k v → v ≢ Nothing
written c ρ Blank v w h e = absurd w
written c ρ Mixed v w h e = absurd w
written c ρ Ended v w h e = absurd w
written c ρ (Num s) v w h e = number-not h.0 v h.1 e
written c ρ (CtxAt s) v w h e = pointer-not (Ctx h.offset) v h.is e
written c ρ (FrameAt o) v w h e = pointer-not (Frame o) v h e
written c ρ (MapAt map) v w h e = pointer-not (MapRef map) v h e
written c ρ (ValueAt map s) v w h e = pointer-not (Elem h.n h.offset) v h.is e
written c ρ (MaybeNull map id) v w h e = found-not (ρ id) v h.0 e

-- the cells
module _ (c : Scene) (ρ : Naming) (σ : Stored) (at : ℕ) (v : Value) (kind : Kind) where
  moved-cell : (k : ℕ) (cell : CellKind) (x : Cell) → put (at / 8) v σ (k / 8) ≡ σ (k / 8) → IsOfCell c ρ σ k cell x → IsOfCell c ρ (put (at / 8) v σ) k cell x
  moved-cell k BlankCell x e h = tt
  moved-cell k MixedCell x e h = tt
  moved-cell k EndedCell x e h = tt
  moved-cell k ByteCell x e h = h
  moved-cell k (PartCell other) x e h = subst (λ (y : Value). (x ≡ part_of (k % 8) y) × IsOf c ρ other y) (sym e) h

  spilled-cell : (k : ℕ) (cell : CellKind) (x : Cell) → IsOf c ρ kind v → Where at k → IsOfCell c ρ σ k cell x →
      IsOfCell c ρ (put (at / 8) v σ) k (if is_within at 8 k then PartCell kind else cell)
      (if is_within at 8 k then part_of (k - at) v else x)
  spilled-cell k cell x p (inl w) h =
      let here : put (at / 8) v σ (k / 8) ≡ v = ap (λ b. if b then v else σ (k / 8)) (eq-eqb (k / 8) (at / 8) w.1) in
      subst (λ b. IsOfCell c ρ (put (at / 8) v σ) k (if b then PartCell kind else cell) (if b then part_of (k - at) v else x)) (sym w.0)
      (subst (λ (y : Value). (part_of (k - at) v ≡ part_of (k % 8) y) × IsOf c ρ kind y) (sym here) (ap (λ i. part_of i v) w.2, p))
  spilled-cell k cell x p (inr w) h =
      subst (λ b. IsOfCell c ρ (put (at / 8) v σ) k (if b then PartCell kind else cell) (if b then part_of (k - at) v else x)) (sym w.0)
      (moved-cell k cell x (ap (λ b. if b then v else σ (k / 8)) (ne_eqb (k / 8) (at / 8) w.1)) h)

-- parts of what is near
near-part : (i : ℕ) (v : Value) → IsNear v → IsNearCell (part_of i v)
near-part i Nothing h = tt
near-part i (Number n) h = tt
near-part i (Pointer r) h = h

part-near : (i : ℕ) (v : Value) → IsNearCell (part_of i v) → IsNear v
part-near i Nothing h = tt
part-near i (Number n) h = tt
part-near i (Pointer r) h = h

near-spilled : (at : ℕ) (v : Value) (m : State) → IsNear v → AreNear m.regs m.frame → AreNear m.regs (with_value at v m.frame)
near-spilled at v m p h = record {
  regs_near = h.regs_near;
  cells_near = λ k.
      choice IsNearCell (is_within at 8 k) (part_of (k - at) v) (m.frame k) (near-part (k - at) v p) (h.cells_near k);
}

spilled-described : (a : AbsState) (c : Scene) (m : State) (at place : ℕ) (kind : Kind) (v : Value) → at % 8 ≡ 0 →
    (d : Describes a c m) → IsOf c d.naming kind v → IsNear v →
    Describes (with_cells at 8 (PartCell kind) a) c (record {
      regs = m.regs;
      frame = with_value at v m.frame;
      place =
          place;
    })
spilled-described a c m at place kind v e d p n = record {
  naming = d.naming;
  stored = put (at / 8) v d.stored;
  depth = d.depth;
  near = near-spilled at v m n d.near;
  regs = d.regs;
  cells = λ k. spilled-cell c d.naming d.stored at v kind k (a.cells k) (m.frame k) p (in-group at k e) (d.cells k);
}

-- a reference to the run's own context or frame reaches no element
pub no-element : (es : List Element) (width : ℕ) (offset : ℤ) (v base : Value) (r : Reference) (new : List Element) →
    IsOwn r → base ≡ Pointer r → element_store es width offset v base ≡ Some new → ⊥
no-element es width offset v base r new own e h = store-own es new width offset v base (subst (HoldsValue IsOwn) (sym e) own) h

pub no-element-load : (es : List Element) (width : ℕ) (offset : ℤ) (base : Value) (r : Reference) (n : ℕ) → IsOwn r →
    base ≡ Pointer r → element_load es width offset base ≡ Some n → ⊥
no-element-load es width offset base r n own e h = load-own es width offset base n (subst (HoldsValue IsOwn) (sym e) own) h

module _ (dst src : ℕ) (offset o : ℤ) (at : ℕ) (shapes : List MapShape) (ctx_len : ℕ) (a : AbsState) (kind : Kind) where
  spill-acts : a.regs dst ≡ FrameAt o → region_offset FRAME_BYTES 8 (o +ℤ offset) ≡ Some at → a.regs src ≡ kind →
      IsWritten kind → (s : Maps) (run : Run) → AllBytes s.elements → Describes a (scene_of s run) run.state →
      Acting (Store Eight dst offset (Register src)) s run (with_cells at 8 (PartCell kind) a) None
  spill-acts e p f w s run bytes d =
      let base : run.state.regs dst ≡ Pointer (Frame o) = reg-is a (scene_of s run) run.state dst (FrameAt o) d e in
      let v = reg-is a (scene_of s run) run.state src kind d f in
      let goes : (ℕ → Cell) → Option Outcome = λ frame. Some (Moves (record { regs = run.state.regs; frame = frame; place = run.state.place + 1 })) in
      by-itself (Store Eight dst offset (Register src)) s run (with_cells at 8 (PartCell kind) a) None
      (Moves (record {
        regs = run.state.regs;
        frame = with_value at (run.state.regs src) run.state.frame;
        place =
            run.state.place + 1;
      })) bytes
      (ap (store_to run.state 8 offset (run.state.regs src)) base ∙
      (ap (λ q. q >>= λ k. frame_after k 8 (run.state.regs src) run.state.frame >>= goes) p ∙
      ap (λ q. q >>= goes) (frame-is at (run.state.regs src) run.state.frame
      (written (scene_of s run) d.naming kind (run.state.regs src) w v))))
      (λ other fs h. no-element s.elements 8 offset (run.state.regs src) (run.state.regs dst) (Frame o) fs tt base h.0)
      (inl (
        refl,
        refl,
        spilled-described a (scene_of s run) run.state at (run.state.place + 1) kind
            (run.state.regs src) (aligned (o +ℤ offset) at p) d v (d.near.regs_near src),
      ))

  pub spill_transfers : a.regs dst ≡ FrameAt o → region_offset FRAME_BYTES 8 (o +ℤ offset) ≡ Some at →
      a.regs src ≡ kind → IsWritten kind → Transfers (Store Eight dst offset (Register src)) shapes ctx_len a
      (with_cells at 8 (PartCell kind) a) None
  spill_transfers e p f w = acts-transfers (Store Eight dst offset (Register src)) shapes ctx_len a
      (with_cells at 8 (PartCell kind) a) None (no-call (Store Eight dst offset (Register src)) refl)
      (λ s opened run x t d. spill-acts e p f w s run x.bytes d)

-- eight parts are read back
same-int : (o : ℤ) → int_eq o o ≡ true
same-int o = grind (arith, Decides-int_eq)

same-reference : (r : Reference) → is_same_reference r r ≡ true
same-reference (Ctx o) = same-int o
same-reference (Frame o) = same-int o
same-reference (MapRef m) = eq-eqb m m refl
same-reference (Elem n o) = ap (λ b. b && int_eq o o) (eq-eqb n n refl) ∙ same-int o

part-is : (i : ℕ) (r : Reference) (x : Cell) → x ≡ Part i r → is_part i r x ≡ true
part-is i r x e = ap (is_part i r) e ∙ (ap (λ b. b && is_same_reference r r) (eq-eqb i i refl) ∙ same-reference r)

parts-are : (r : Reference) (frame : ℕ → Cell) (n i at : ℕ) → ((j : ℕ) → j < n → frame (at + j) ≡ Part (i + j) r) → are_parts i r frame at n ≡ true
parts-are r frame zero i at h = refl
parts-are r frame (suc n) i at h =
    let here : at + 0 ≡ at = omega arith in
    let first : i + 0 ≡ i = omega arith in
    ap (λ b. b && are_parts (suc i) r frame (suc at) n) (part-is i r (frame at) (ap frame (sym here) ∙ (h 0 (omega arith) ∙ ap (λ k. Part k r) first)))
    ∙ parts-are r frame n (suc i) (suc at) (λ j l.
    let x : suc at + j ≡ at + suc j = omega arith in
    let y : i + suc j ≡ suc i + j = omega arith in
    ap frame x ∙ (h (suc j) (omega arith) ∙ ap (λ k. Part k r) y))

zeros-are : (bytes : ℕ → Option ℕ) (n at : ℕ) → ((j : ℕ) → j < n → bytes (at + j) ≡ Some 0) → number_at bytes at n ≡ Some 0
zeros-are bytes zero at h = refl
zeros-are bytes (suc n) at h =
    let here : at + 0 ≡ at = omega arith in
    ap (λ o. o >>= λ low. number_at bytes (suc at) n >>= λ high. Some (low + 256 * high)) (ap bytes (sym here) ∙ h 0 (omega arith))
    ∙ ap (λ o. o >>= λ high. Some (0 + 256 * high)) (zeros-are bytes n (suc at)
    (λ j l. let x : suc at + j ≡ at + suc j = omega arith in ap bytes x ∙ h (suc j) (omega arith)))

zero-part : (i : ℕ) → part_of i (Number 0) ≡ Byte 0
zero-part i =
    let l : 0 / 256 ^ i ≤ 0 = div-le_self 0 (256 ^ i) in
    let e : 0 / 256 ^ i % 256 ≡ 0 = omega arith in
    ap Byte e

-- what a group holds, of a pointer's kind, is null or a reference
abbrev IsNullOrReference : Value → Type 0
IsNullOrReference v = (v ≡ Number 0) ⊎ ((r : Reference) × (v ≡ Pointer r))

found-one : (o : Option ℕ) → IsNullOrReference (found_value o)
found-one None = inl refl
found-one (Some n) = inr (Elem n (pos 0), refl)

pointer-value : (c : Scene) (ρ : Naming) (k : Kind) (v : Value) → IsPointer k → IsOf c ρ k v → IsNullOrReference v
pointer-value c ρ Blank v w h = absurd w
pointer-value c ρ Mixed v w h = absurd w
pointer-value c ρ Ended v w h = absurd w
pointer-value c ρ (Num s) v w h = absurd w
pointer-value c ρ (CtxAt s) v w h = inr (Ctx h.offset, h.is)
pointer-value c ρ (FrameAt o) v w h = inr (Frame o, h)
pointer-value c ρ (MapAt map) v w h = inr (MapRef map, h)
pointer-value c ρ (ValueAt map s) v w h = inr (Elem h.n h.offset, h.is)
pointer-value c ρ (MaybeNull map id) v w h = subst IsNullOrReference (sym h.0) (found-one (ρ id))

read-back : (frame : ℕ → Cell) (at : ℕ) (v : Value) → IsNullOrReference v → ((j : ℕ) → j < 8 → frame (at + j) ≡ part_of j v) → read frame at 8 ≡ Some v
read-back frame at v (inl e) h =
    let here : at + 0 ≡ at = omega arith in
    let cell : (j : ℕ) → j < 8 → frame (at + j) ≡ Byte 0 = λ j l. h j l ∙ (ap (part_of j) e ∙ zero-part j) in
    ap (found frame at 8) (ap frame (sym here) ∙ cell 0 (omega arith))
    ∙ (ap (λ o. o >>= λ n. Some (Number n)) (zeros-are (λ k. byte_of (frame k)) 8 at (λ j l. ap byte_of (cell j l))) ∙ ap Some (sym e))
read-back frame at v (inr x) h =
    let here : at + 0 ≡ at = omega arith in
    let cell : (j : ℕ) → j < 8 → frame (at + j) ≡ Part j x.0 = λ j l. h j l ∙ ap (part_of j) x.1 in
    ap (found frame at 8) (ap frame (sym here) ∙ cell 0 (omega arith))
    ∙ (ap (λ b. if b then Some (Pointer x.0) else None)
    (parts-are x.0 frame 8 0 at (λ j l. let z : j ≡ 0 + j = omega arith in cell j l ∙ ap (λ k. Part k x.0) z)) ∙
    ap Some (sym x.1))

module _ (dst src : ℕ) (offset o : ℤ) (at : ℕ) (shapes : List MapShape) (ctx_len : ℕ) (a : AbsState) (kind : Kind) where
  fill-acts : a.regs src ≡ FrameAt o → region_offset FRAME_BYTES 8 (o +ℤ offset) ≡ Some at →
      ((j : ℕ) → j < 8 → a.cells (at + j) ≡ PartCell kind) → IsPointer kind → (10 ≡ dst → ⊥) →
      (s : Maps) (run : Run) → AllBytes s.elements → Describes a (scene_of s run) run.state →
      Acting (Load Eight dst src offset) s run (with_kind dst kind a) None
  fill-acts e p cells w ne s run bytes d =
      let m : State = run.state in
      let c : Scene = scene_of s run in
      let base : m.regs src ≡ Pointer (Frame o) = reg-is a c m src (FrameAt o) d e in
      let mul : at % 8 ≡ 0 = aligned (o +ℤ offset) at p in
      let v : Value = d.stored (at / 8) in
      let part : (j : ℕ) → j < 8 → (m.frame (at + j) ≡ part_of j v) × IsOf c d.naming kind v = λ j l.
      let h = cell-is a c m (at + j) (PartCell kind) d (cells j l) in
      let g : (at + j) / 8 ≡ at / 8 = omega arith in
      let i : (at + j) % 8 ≡ j = omega arith in
      (h.0 ∙ (ap (λ k. part_of k (d.stored ((at + j) / 8))) i ∙ ap (λ k. part_of j (d.stored k)) g), subst (λ k. IsOf c d.naming kind (d.stored k)) g h.1) in
      let of_kind : IsOf c d.naming kind v = (part 0 (omega arith)).1 in
      let reads : read m.frame at 8 ≡ Some v = read-back m.frame at v (pointer-value c d.naming kind v w of_kind) (λ j l. (part j l).0) in
      by-itself (Load Eight dst src offset) s run (with_kind dst kind a) None
      (Moves (record { regs = put dst v m.regs; frame = m.frame; place = m.place + 1 })) bytes
      (ap (λ q. q >>= λ y. sets 1 dst y m) (ap (load_from (environment run) m 8 offset) base ∙
      (ap (λ q. q >>= λ k. read m.frame k 8) p ∙ reads)) ∙ set-is 1 dst v m ne)
      (λ other fs h. no-element-load s.elements 8 offset (m.regs src) (Frame o) h.0 tt base h.1)
      (inl (
        refl,
        refl,
        set-described a c m dst (m.place + 1) kind v d of_kind
            (part-near 0 v (subst IsNearCell (part 0 (omega arith)).0 (d.near.cells_near (at + 0)))),
      ))

  pub fill_transfers : a.regs src ≡ FrameAt o → region_offset FRAME_BYTES 8 (o +ℤ offset) ≡ Some at →
      ((j : ℕ) → j < 8 → a.cells (at + j) ≡ PartCell kind) → IsPointer kind → (10 ≡ dst → ⊥) →
      Transfers (Load Eight dst src offset) shapes ctx_len a (with_kind dst kind a) None
  fill_transfers e p cells w ne = acts-transfers (Load Eight dst src offset) shapes ctx_len a (with_kind dst kind a)
      None (no-call (Load Eight dst src offset) refl) (λ s opened run x t d. fill-acts e p cells w ne s run x.bytes d)
