-- A program with a guarded lookup is verified: the plan has a state for each of its instructions.
use Rattle.bpf_model.proofs.Prelude.{◌≡◌, ℕ, zero, suc, ◌+◌, ◌-◌, ◌<◌, ◌≤◌, ◌^◌, ◌%◌, ◌/◌, List, [], ◌∷◌, Some, None, inl, inr, refl, sym, ap, subst, ◌∙◌, ℤ}
use Rattle.bpf_model.proofs.Prelude.{pos, negsuc, arith, Bool, true, false, slice_get, if◌then◌else◌, ◌==◌, ◌+ℤ◌, nat_le, nat_lt, cases_eq, eq-eqb, ne_eqb}
use Rattle.bpf_model.proofs.Prelude.{none-some, same_Some, ints, mod_below, immediate, ◌>>=◌, number, region_offset, is_within, with_number, computed}
use Rattle.bpf_model.proofs.Prelude.{slot_count, falls, distance, LeadsTo, State, Environment, Outcome, Moves, Exits, after, put, sets, store_to, Element}
use Rattle.bpf_model.proofs.Prelude.{NeverStuck, Loaded, MapState, new_map, Schedule, IsReachedSchedule, within, choice}
use Rattle.model_laws.proofs.Prelude.{FRAME_BYTES, MapShape, Insn, Alu, LoadMap, JumpIf, Call, Exit, Load, Store, Move, Add, Kernel, Register, Immediate}
use Rattle.model_laws.proofs.Prelude.{Word64, Eight, Equal, Value, Number, Pointer, Frame, MapRef, Cell, Byte, AccessesElement, element_store}
use Rattle.model_laws.proofs.Prelude.{lookup_and_load, lookup_program, example_shape, IsNear, IsNearCell}
use Rattle.plan_laws.proofs.Prelude.{Kind, Blank, Num, FrameAt, MapAt, MaybeNull, CellKind, BlankCell, ByteCell, AbsState, Scene, Naming, Stored, HasOffset}
use Rattle.plan_laws.proofs.Prelude.{IsOf, IsOfCell, AreNear, Describes, with_kind, with_cells, after_call, after_lock, after_unlock, when_null, when_there}
use Rattle.plan_laws.proofs.Prelude.{IsFresh, IsOther, IsOtherCell, IsAlwaysInside, HasBytes, Plan, Transfers, ActsAlone, IsVerified, number_zero, origin}
use Rattle.plan_laws.proofs.Prelude.{Wider, entry_state, IsCovered, IsVerifiedFor}
use Rattle.scalar_domain.proofs.Prelude.{Holds}
use Rattle.bpf_model.specs.declared.insn.CallKind.TheVariants.{Helper}
use Rattle.bpf_model.specs.declared.opcode.Width.TheVariants.{Four}
use Rattle.scalar_domain.specs.declared.scalar.Scalar.{Scalar}
use Rattle.plan_laws.proofs.Sets.{set-described}
use Rattle.plan_laws.proofs.Arguments.{reg-is}
use Rattle.plan_laws.proofs.Calls.{lock_transfers, unlock_transfers, lookup_transfers}
use Rattle.plan_laws.proofs.Local.{alone_transfers, equal_transfers}
use Rattle.plan_laws.proofs.Elements.{load_transfers, set-is}
use Rattle.plan_laws.proofs.Planning.{kept_is_closed, origin_has, zero_holds}
use Rattle.plan_laws.proofs.Reaching.{well_never_stuck, reached_is_well}

-- bytes stored to the frame
byte-cell : (c : Scene) (ρ : Naming) (σ : Stored) (b : Bool) (k n : ℕ) (cell : CellKind) (x : Cell) → n < 256 →
    IsOfCell c ρ σ k cell x → IsOfCell c ρ σ k (if b then ByteCell else cell) (if b then Byte n else x)
byte-cell c ρ σ true k n cell x l h = (n, refl, l)
byte-cell c ρ σ false k n cell x l h = h

near-bytes : (m : State) (at width n : ℕ) → AreNear m.regs m.frame → AreNear m.regs (with_number at width n m.frame)
near-bytes m at width n h = record {
  regs_near = h.regs_near;
  cells_near = λ k.
      choice IsNearCell (is_within at width k) (Byte (n / 256 ^ (k - at) % 256)) (m.frame k) tt (h.cells_near k);
}

pub bytes-described : (a : AbsState) (c : Scene) (m : State) (at width n place : ℕ) → Describes a c m →
    Describes (with_cells at width ByteCell a) c (record {
      regs = m.regs;
      frame = with_number at width n m.frame;
      place = place;
    })
bytes-described a c m at width n place d = record {
  naming = d.naming;
  stored = d.stored;
  depth = d.depth;
  near = near-bytes m at width n d.near;
  regs = d.regs;
  cells = λ k. byte-cell c d.naming d.stored (is_within at width k) k (n / 256 ^ (k - at) % 256) (a.cells k)
      (m.frame k) (mod_below _ 256 (omega arith)) (d.cells k);
}

-- a move, a sum: what is computed is of the kind
computes : (i : Insn) (dst : ℕ) (kind : Kind) (v : Value) (a : AbsState) (c : Scene) (env : Environment) (m : State) →
    falls i ≡ true → slot_count i ≡ 1 → ((es fs : List Element) (other : Outcome) → AccessesElement i es m other fs →
    ⊥) → (10 ≡ dst → ⊥) → after i env m ≡ sets 1 dst v m → (d : Describes a c m) → IsOf c d.naming kind v → IsNear v →
    ActsAlone i (with_kind dst kind a) None c env m
computes i dst kind v a c env m f one alone ne is d p n = record {
  out = Moves (record { regs = put dst v m.regs; frame = m.frame; place = m.place + 1 });
  after_is = is ∙ set-is 1 dst v m ne;
  alone = alone;
  lands = inl (f, ap (λ x. m.place + x) (sym one), set-described a c m dst (m.place + 1) kind v d p n);
}

only-origin : (o : ℤ) → HasOffset origin o → o ≡ pos 0
only-origin o h =
    let l : 536870912 ≤ h.raised = h.holds.least in
    let g : h.raised ≤ 536870912 = h.holds.greatest in
    let e : pos h.raised ≡ o +ℤ pos 536870912 = h.is in
    let r : h.raised ≡ 536870912 = omega arith in
    let f : pos 536870912 ≡ o +ℤ pos 536870912 = ap pos (sym r) ∙ e in
    omega (arith, ints)

placed-origin : IsAlwaysInside origin 8 (pos 0) 8
placed-origin o h = (0, ap (λ z. region_offset 8 8 (z +ℤ pos 0)) (only-origin o h))

abbrev shapes : List MapShape
shapes = example_shape ∷ []

-- what is known before each instruction of the example
module _ (any : Scalar) where
  abbrev pub s0 : AbsState
  s0 = entry_state

  abbrev pub s1 : AbsState
  s1 = with_kind 6 (Num number_zero) s0

  abbrev pub s2 : AbsState
  s2 = after_lock s1

  abbrev pub s3 : AbsState
  s3 = with_cells 508 4 ByteCell s2

  abbrev pub s4 : AbsState
  s4 = with_kind 2 (FrameAt (pos FRAME_BYTES)) s3

  abbrev pub s5 : AbsState
  s5 = with_kind 2 (FrameAt (pos 508)) s4

  abbrev pub s7 : AbsState
  s7 = with_kind 1 (MapAt 0) s5

  abbrev pub s8 : AbsState
  s8 = after_call (MaybeNull 0 0) s7

  abbrev pub s9 : AbsState
  s9 = when_there 0 origin s8

  abbrev pub six : ℕ → Kind
  six r = if r == 6 then Num any else Blank

  abbrev pub s10 : AbsState
  s10 = record { regs = six; cells = λ k. BlankCell; depth = 1 }

  abbrev pub s11 : AbsState
  s11 = after_unlock shapes s10

  abbrev pub s12 : AbsState
  s12 = with_kind 0 (Num any) s11

-- a plan from a list
pub record Entry : Type 0 where
  pub index : ℕ
  pub state : AbsState

abbrev pub find : List Entry → Plan
find [] p = None
find (e ∷ es) p = if p == e.index then Some e.state else find es p

abbrev AllCovered : Plan → List Entry → Type 0
AllCovered plan [] = Unit {0}
AllCovered plan (e ∷ es) = (e.index < 12) × IsCovered lookup_and_load shapes 0 plan e.index e.state × AllCovered plan es

each-covered : (plan : Plan) (es : List Entry) → AllCovered plan es → (k : ℕ) (a : AbsState) → find es k ≡ Some a →
    (k < 12) × IsCovered lookup_and_load shapes 0 plan k a
each-covered plan [] h k a at = absurd (none-some a at)
each-covered plan (e ∷ es) h k a at = elim (cases_eq k e.index) [
  | inl s ↦ subst (λ p. (p < 12) × IsCovered lookup_and_load shapes 0 plan p a) (sym s) (
    h.0,
    subst (IsCovered lookup_and_load shapes 0 plan e.index)
        (same_Some e.state a (sym (ap (λ b. if b then Some e.state else find es k) (eq-eqb k e.index s)) ∙ at)) h.1,
  )
  | inr n ↦ each-covered plan es h.2 k a (sym (ap (λ b. if b then Some e.state else find es k) (ne_eqb k e.index n)) ∙ at)
]

no-jump : (i : Insn) (by : ℤ) → distance i ≡ None → distance i ≡ Some by → ⊥
no-jump i by e j = none-some by (sym e ∙ j)

covered : (plan : Plan) (i : Insn) (k : ℕ) (a new b : AbsState) → slice_get lookup_and_load k ≡ Some i →
    Transfers i shapes 0 a new None → distance i ≡ None → plan (suc k) ≡ Some b → Wider new b →
    IsCovered lookup_and_load shapes 0 plan k a
covered plan i k a new b at t e next wide = record {
  insn = i;
  there = at;
  new = new;
  taken = None;
  transfers = t;
  falls_on = λ f. (b, next, wide);
  jumps_on = λ by j. absurd (no-jump i by e j);
}

same : (a : AbsState) → Wider a a
same a c m d = d

module _ (any : Scalar) (all : (n : ℕ) → n < 2 ^ 64 → Holds any n) where
  abbrev entries : List Entry
  entries =
      record { index = 0; state = s0 any } ∷
      record { index = 1; state = s1 any } ∷
      record { index = 2; state = s2 any } ∷
      record { index = 3; state = s3 any } ∷
      record { index = 4; state = s4 any } ∷
      record { index = 5; state = s5 any } ∷
      record { index = 6; state = s7 any } ∷
      record { index = 7; state = s8 any } ∷
      record { index = 8; state = s9 any } ∷
      record { index = 9; state = s10 any } ∷
      record { index = 10; state = s11 any } ∷
      record { index = 11; state = s12 any } ∷ []

  abbrev plan : Plan
  plan = find entries

  t0 : Transfers (Alu Move Word64 6 (Immediate (pos 0))) shapes 0 (s0 any) (s1 any) None
  t0 = alone_transfers (Alu Move Word64 6 (Immediate (pos 0))) shapes 0 (s0 any) (s1 any) None refl (λ c env m w target d.
      computes (Alu Move Word64 6 (Immediate (pos 0))) 6 (Num number_zero) (Number 0) (s0 any) c env m refl refl
      (λ es fs other h. h) (λ e. omega arith) refl d (0, refl, omega arith, zero_holds) tt)

  t1 : Transfers (Call Kernel (pos 1)) shapes 0 (s1 any) (s2 any) None
  t1 = lock_transfers (pos 1) shapes 0 (s1 any) refl (omega arith)

  t2 : Transfers (Store Four 10 (negsuc 3) (Immediate (pos 0))) shapes 0 (s2 any) (s3 any) None
  t2 = alone_transfers (Store Four 10 (negsuc 3) (Immediate (pos 0))) shapes 0 (s2 any) (s3 any) None refl (λ c env m w target d.
      let base : m.regs 10 ≡ Pointer (Frame (pos FRAME_BYTES)) = reg-is (s2 any) c m 10 (FrameAt (pos FRAME_BYTES)) d refl in record {
        out = Moves (record { regs = m.regs; frame = with_number 508 4 0 m.frame; place = m.place + 1 });
        after_is = ap (store_to m 4 (negsuc 3) (Number (immediate (pos 0)))) base;
        alone = λ es fs other h. none-some fs (sym (ap (element_store es 4 (negsuc 3) (Number (immediate (pos 0)))) base) ∙ h.0);
        lands = inl (refl, refl, bytes-described (s2 any) c m 508 4 0 (m.place + 1) d);
      })

  t3 : Transfers (Alu Move Word64 2 (Register 10)) shapes 0 (s3 any) (s4 any) None
  t3 = alone_transfers (Alu Move Word64 2 (Register 10)) shapes 0 (s3 any) (s4 any) None refl (λ c env m w target d.
      let base : m.regs 10 ≡ Pointer (Frame (pos FRAME_BYTES)) = reg-is (s3 any) c m 10 (FrameAt (pos FRAME_BYTES)) d refl in
      computes (Alu Move Word64 2 (Register 10)) 2 (FrameAt (pos FRAME_BYTES)) (Pointer (Frame (pos FRAME_BYTES)))
      (s3 any) c env m refl refl (λ es fs other h. h) (λ e. omega arith)
      (ap (λ v. computed Word64 Move (m.regs 2) v >>= λ y. sets 1 2 y m) base) d refl (omega arith))

  t4 : Transfers (Alu Add Word64 2 (Immediate (negsuc 3))) shapes 0 (s4 any) (s5 any) None
  t4 = alone_transfers (Alu Add Word64 2 (Immediate (negsuc 3))) shapes 0 (s4 any) (s5 any) None refl (λ c env m w target d.
      let base : m.regs 2 ≡ Pointer (Frame (pos FRAME_BYTES)) = reg-is (s4 any) c m 2 (FrameAt (pos FRAME_BYTES)) d refl in
      computes (Alu Add Word64 2 (Immediate (negsuc 3))) 2 (FrameAt (pos 508)) (Pointer (Frame (pos 508))) (s4 any) c
      env m refl refl (λ es fs other h. h) (λ e. omega arith)
      (ap (λ v. computed Word64 Add v (Number (immediate (negsuc 3))) >>= λ y. sets 1 2 y m) base) d refl (omega arith))

  t5 : Transfers (LoadMap 1 (pos 0)) shapes 0 (s5 any) (s7 any) None
  t5 = alone_transfers (LoadMap 1 (pos 0)) shapes 0 (s5 any) (s7 any) None refl (λ c env m w target d. record {
    out = Moves (record { regs = put 1 (Pointer (MapRef 0)) m.regs; frame = m.frame; place = m.place + 2 });
    after_is = ap (λ k. (if nat_lt 0 k then Some (Pointer (MapRef 0)) else None) >>= λ v. sets 2 1 v m) w.bound;
    alone = λ es fs other h. h;
    lands = inl (refl, refl, set-described (s5 any) c m 1 (m.place + 2) (MapAt 0) (Pointer (MapRef 0)) d refl tt);
  })

  fresh : IsFresh 0 (s7 any)
  fresh = record {
    regs = λ r. choice (IsOther 0) (r == 1) _ _ tt (choice (IsOther 0) (r == 2) _ _ tt
        (choice (IsOther 0) (r == 2) _ _ tt (choice (IsOther 0) (r == 0) _ _ tt
        (choice (IsOther 0) (nat_le r 5) _ _ tt (choice (IsOther 0) (r == 6) _ _ tt
        (choice (IsOther 0) (r == 1) _ _ tt (choice (IsOther 0) (r == 10) _ _ tt tt)))))));
    cells = λ k. choice (IsOtherCell 0) (is_within 508 4 k) _ _ tt tt;
  }

  key : HasBytes (s7 any) 2 4
  key = record { at = 508; frame = refl; inside = omega arith; bytes = λ k p q. ap (λ b. if b then ByteCell else BlankCell) (within 508 4 k p q) }

  t7 : Transfers (Call Helper (pos 1)) shapes 0 (s7 any) (s8 any) None
  t7 = lookup_transfers (pos 1) shapes 0 (s7 any) 0 0 example_shape refl (inl (omega arith)) (record { map_is = refl; shape_is = refl }) key fresh

  t8 : Transfers (JumpIf Equal Word64 0 (Immediate (pos 0)) (pos 1)) shapes 0 (s8 any) (s9 any) (Some (when_null 0 number_zero (s8 any)))
  t8 = equal_transfers shapes 0 0 (pos 1) 0 0 (s8 any) number_zero origin zero_holds origin_has refl

  t9 : Transfers (Load Eight 6 0 (pos 0)) shapes 0 (s9 any) (with_kind 6 (Num any) (s9 any)) None
  t9 = load_transfers Eight 6 0 (pos 0) shapes 0 (s9 any) 0 example_shape origin any refl refl placed-origin (λ e. omega arith) (λ n l. all n (omega arith))

  t10 : Transfers (Call Kernel (pos 2)) shapes 0 (s10 any) (s11 any) None
  t10 = unlock_transfers (pos 2) shapes 0 (s10 any) refl (omega arith)

  t11 : Transfers (Alu Move Word64 0 (Register 6)) shapes 0 (s11 any) (s12 any) None
  t11 = alone_transfers (Alu Move Word64 0 (Register 6)) shapes 0 (s11 any) (s12 any) None refl (λ c env m w target d.
      let n = reg-is (s11 any) c m 6 (Num any) d refl in
      computes (Alu Move Word64 0 (Register 6)) 0 (Num any) (Number n.0) (s11 any) c env m refl refl (λ es fs other h. h) (λ e. omega arith)
      (ap (λ v. computed Word64 Move (m.regs 0) v >>= λ y. sets 1 0 y m) n.1) d (n.0, refl, n.2, n.3) tt)

  t12 : Transfers Exit shapes 0 (s12 any) (s12 any) None
  t12 = alone_transfers Exit shapes 0 (s12 any) (s12 any) None refl (λ c env m w target d.
      let n = reg-is (s12 any) c m 0 (Num any) d refl in record {
        out = Exits n.0;
        after_is = ap (λ v. number v >>= λ k. Some (Exits k)) n.1;
        alone = λ es fs other h. h;
        lands = d.depth;
      })

  -- the two ways to the unlock
  wide-ten : (a : AbsState) → a.depth ≡ 1 → ((c : Scene) (m : State) (d : Describes a c m) → IsOf c d.naming (Num any) (m.regs 6)) → Wider a (s10 any)
  wide-ten a into f c m d = record {
    naming = d.naming;
    stored = d.stored;
    depth = d.depth ∙ into;
    near = d.near;
    regs = λ r. elim (cases_eq r 6) [
      | inl e ↦ subst (λ b. IsOf c d.naming (if b then Num any else Blank) (m.regs r)) (sym (eq-eqb r 6 e))
          (subst (λ q. IsOf c d.naming (Num any) (m.regs q)) (sym e) (f c m d))
      | inr n ↦ subst (λ b. IsOf c d.naming (if b then Num any else Blank) (m.regs r)) (sym (ne_eqb r 6 n)) tt
    ];
    cells = λ k. tt;
  }

  from-null : Wider (when_null 0 number_zero (s8 any)) (s10 any)
  from-null = wide-ten (when_null 0 number_zero (s8 any)) refl
      (λ c m d. let n = reg-is (when_null 0 number_zero (s8 any)) c m 6 (Num number_zero) d
      refl in (n.0, n.1, n.2, all n.0 n.2))

  from-load : Wider (with_kind 6 (Num any) (s9 any)) (s10 any)
  from-load = wide-ten (with_kind 6 (Num any) (s9 any)) refl (λ c m d. reg-is (with_kind 6 (Num any) (s9 any)) c m 6 (Num any) d refl)

  jump-to : LeadsTo lookup_and_load 7 (JumpIf Equal Word64 0 (Immediate (pos 0)) (pos 1)) 9
  jump-to = record { further = omega arith; by = pos 1; by_is = refl; from = 8; from_is = refl; to = 10; to_is = refl; sum = refl }

  all-covered : AllCovered plan entries
  all-covered = (
    omega arith,
    covered plan (Alu Move Word64 6 (Immediate (pos 0))) 0 (s0 any) (s1 any) (s1 any) refl t0 refl refl (same (s1 any)),
    (
      omega arith,
      covered plan (Call Kernel (pos 1)) 1 (s1 any) (s2 any) (s2 any) refl t1 refl refl (same (s2 any)),
      (
        omega arith,
        covered plan (Store Four 10 (negsuc 3) (Immediate (pos 0))) 2 (s2 any) (s3 any) (s3 any) refl t2 refl refl (same (s3 any)),
        (
          omega arith,
          covered plan (Alu Move Word64 2 (Register 10)) 3 (s3 any) (s4 any) (s4 any) refl t3 refl refl (same (s4 any)),
          (
            omega arith,
            covered plan (Alu Add Word64 2 (Immediate (negsuc 3))) 4 (s4 any) (s5 any) (s5 any) refl t4 refl refl (same (s5 any)),
            (
              omega arith,
              covered plan (LoadMap 1 (pos 0)) 5 (s5 any) (s7 any) (s7 any) refl t5 refl refl (same (s7 any)),
              (
                omega arith,
                covered plan (Call Helper (pos 1)) 6 (s7 any) (s8 any) (s8 any) refl t7 refl refl (same (s8 any)),
                (
                  omega arith,
                  record {
                    insn = JumpIf Equal Word64 0 (Immediate (pos 0)) (pos 1);
                    there = refl;
                    new = s9 any;
                    taken = Some (when_null 0 number_zero (s8 any));
                    transfers = t8;
                    falls_on = λ f. (s9 any, refl, same (s9 any));
                    jumps_on = λ by j. (9, jump-to, (s10 any, refl, from-null));
                  },
                  (
                    omega arith,
                    covered plan (Load Eight 6 0 (pos 0)) 8 (s9 any) (with_kind 6 (Num any) (s9 any)) (s10 any) refl t9 refl refl from-load,
                    (
                      omega arith,
                      covered plan (Call Kernel (pos 2)) 9 (s10 any) (s11 any) (s11 any) refl t10 refl refl (same (s11 any)),
                      (
                        omega arith,
                        covered plan (Alu Move Word64 0 (Register 6)) 10 (s11 any) (s12 any) (s12 any) refl t11 refl refl (same (s12 any)),
                        (
                          omega arith,
                          record {
                            insn = Exit;
                            there = refl;
                            new = s12 any;
                            taken = None;
                            transfers = t12;
                            falls_on = λ f. absurd (cc);
                            jumps_on = λ by j. absurd (no-jump Exit by refl j);
                          },
                          tt,
                        ),
                      ),
                    ),
                  ),
                ),
              ),
            ),
          ),
        ),
      ),
    ),
  )

  pub lookup_is_verified : IsVerified lookup_and_load shapes 0
  lookup_is_verified = record {
    plan = plan;
    closed = kept_is_closed lookup_and_load shapes 0 plan (record {
      start = (s0 any, refl, same (s0 any));
      inside = λ k a at. (each-covered plan entries all-covered k a at).0;
      each = λ k a at. (each-covered plan entries all-covered k a at).1;
    });
  }

bound-one : (i : ℕ) (shape : MapShape) → slice_get shapes i ≡ Some shape → (map : ℕ) × (state : MapState) ×
    (slice_get (0 ∷ []) i ≡ Some map) × (slice_get (new_map example_shape ∷ []) map ≡ Some state) ×
    (state.shape ≡ shape)
bound-one zero shape at = (0, new_map example_shape, refl, refl, same_Some example_shape shape at)
bound-one (suc i) shape at = absurd (none-some shape at)

pub safe-one : (any : Scalar) → ((n : ℕ) → n < 2 ^ 64 → Holds any n) → (p : ℕ) (program : Loaded) →
    slice_get (lookup_program ∷ []) p ≡ Some program → IsVerifiedFor (new_map example_shape ∷ []) program
safe-one any all zero program at = subst (IsVerifiedFor (new_map example_shape ∷ []))
    (same_Some lookup_program program at) (record {
      shapes = shapes;
      bound =
          record { count = refl; each = bound-one };
      verified = lookup_is_verified any all;
    })
safe-one any all (suc p) program at = absurd (none-some program at)

pub lookup_never_stuck : (any : Scalar) → ((n : ℕ) → n < 2 ^ 64 → Holds any n) → (s : Schedule) →
    IsReachedSchedule (example_shape ∷ []) (lookup_program ∷ []) s → NeverStuck s.machine
lookup_never_stuck any all s r = well_never_stuck s.machine (reached_is_well (example_shape ∷ []) (lookup_program ∷ []) s (safe-one any all) r)
