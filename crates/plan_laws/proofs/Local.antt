-- Instructions that a described run makes by itself, and null tests.
use Rattle.bpf_model.proofs.Prelude.{◌≡◌, ℕ, ◌+◌, ◌<◌, ◌^◌, ◌%◌, ◌/◌, List, length, Option, Some, None, inl, inr, refl, sym, ap, subst, ◌∙◌, ℤ, pos, arith}
use Rattle.bpf_model.proofs.Prelude.{false, if◌then◌else◌, cases_eq, eq-eqb, ne_eqb, same_Some, none-some, mod_below, immediate, ◌>>=◌, decided, State}
use Rattle.bpf_model.proofs.Prelude.{Outcome, Moves, Exits, after, forward, jumps_to, jumps_by, Section, Element, Store, with_elements, Run, environment}
use Rattle.bpf_model.proofs.Prelude.{moves, exits, OutcomeStep, InsnStep, found_value, AllBytes}
use Rattle.model_laws.proofs.Prelude.{MapShape, Insn, JumpIf, Call, Immediate, Equal, NotEqual, Word64, Answer, Moved, Exited, Value, Number, Pointer, Elem}
use Rattle.model_laws.proofs.Prelude.{Cell, Byte, AccessesElement, Acts}
use Rattle.plan_laws.proofs.Prelude.{Kind, Blank, Mixed, Ended, Num, CtxAt, FrameAt, MapAt, ValueAt, MaybeNull, CellKind, BlankCell, MixedCell, EndedCell}
use Rattle.plan_laws.proofs.Prelude.{ByteCell, PartCell, AbsState, Scene, scene_of, Naming, IsNullOrHeld, HasOffset, IsOf, Stored, part_of, IsOfCell}
use Rattle.plan_laws.proofs.Prelude.{Describes, when_null, when_there, Surrounds, HasStep, Leads, Transfers, is_call, IsEnvironment, JumpsToSlot}
use Rattle.scalar_domain.proofs.Prelude.{Holds}
use Rattle.model_laws.specs.ByKind.{ActStep}
use Rattle.scalar_domain.specs.declared.scalar.Scalar.{Scalar}
use Rattle.plan_laws.specs.Effects.{null_kind, null_cell, there_kind, there_cell}
use Rattle.plan_laws.specs.Verified.{LandsDescribed, TransfersAlone}
use Rattle.plan_laws.proofs.Arguments.{reg-is}
use Rattle.model_laws.proofs.Requests.{by_kind, of_kind}

-- an instruction's steps are those of one that is no call
abbrev pub IsNoCall : Insn → Type 0
IsNoCall i = (s : Store) (opened : List Section) (run : Run) (answer : Answer) (new_store : Store) (new_run : Run) →
    (ActStep i s run answer new_store new_run → InsnStep i s opened run answer new_store new_run) ×
    (InsnStep i s opened run answer new_store new_run → ActStep i s run answer new_store new_run)

-- The one outcome and the elements after it.
pub record Acting (i : Insn) (s : Store) (run : Run) (new : AbsState) (taken : Option AbsState) : Type 0 where
  pub out : Outcome
  pub es : List Element
  pub acts : Acts i (environment run) s.elements run.state out es
  pub only : (other : Outcome) (fs : List Element) → Acts i (environment run) s.elements run.state other fs → (out ≡ other) × (es ≡ fs)
  pub bytes : AllBytes es
  pub reaches : LandsDescribed i new taken (scene_of (with_elements es s) run) run.state.place out

ending : (out : Outcome) (i : Insn) (new : AbsState) (taken : Option AbsState) (s : Store) (run : Run) →
    LandsDescribed i new taken (scene_of s run) run.state.place out → (answer : Answer) × (new_run : Run) ×
    OutcomeStep out run answer new_run
ending (Moves next) i new taken s run h = (Moved, moves run next, (refl, refl))
ending (Exits n) i new taken s run h = (Exited n, exits run n, (h, refl, refl))

ended-leads : (out : Outcome) (i : Insn) (new : AbsState) (taken : Option AbsState) (s : Store) (run : Run)
    (answer : Answer) (new_run : Run) → LandsDescribed i new taken (scene_of s run) run.state.place out →
    OutcomeStep out run answer new_run → Leads i new taken run.state.place s new_run
ended-leads (Moves next) i new taken s run answer new_run h e = subst (λ (r : Run). Leads i new taken run.state.place s r) (sym e.1) (λ going. h)
ended-leads (Exits n) i new taken s run answer new_run h e = λ going. absurd (none-some n (sym (ap (λ (r : Run). r.exit) (sym e.2) ∙ going)))

acts-goes : (i : Insn) (s : Store) (opened : List Section) (run : Run) (b : AbsState) (taken : Option AbsState) →
    IsNoCall i → Acting i s run b taken → HasStep i s opened run
acts-goes i s opened run b taken plain x =
    let e = ending x.out i b taken (with_elements x.es s) run x.reaches in
    (e.0, with_elements x.es s, e.1, (plain s opened run e.0 (with_elements x.es s) e.1).0 (x.out, x.es, x.acts, refl, e.2))

acts-leads : (i : Insn) (s : Store) (run : Run) (b : AbsState) (taken : Option AbsState) (answer : Answer)
    (new_store : Store) (new_run : Run) → Acting i s run b taken → ActStep i s run answer new_store new_run →
    AllBytes new_store.elements × Leads i b taken run.state.place new_store new_run
acts-leads i s run b taken answer new_store new_run x h =
    let o = x.only h.0 h.1 h.2 in
    subst (λ (y : Store). AllBytes y.elements × Leads i b taken run.state.place y new_run) (sym h.3)
    (subst (λ (es : List Element). AllBytes es × Leads i b taken run.state.place (with_elements es s) new_run) o.1
    (x.bytes, ended-leads x.out i b taken (with_elements x.es s) run answer new_run x.reaches (subst (λ y. OutcomeStep y run answer new_run) (sym o.0) h.4)))

pub acts-transfers : (i : Insn) (shapes : List MapShape) (ctx_len : ℕ) (a b : AbsState) (taken : Option AbsState) → IsNoCall i →
    ((s : Store) (opened : List Section) (run : Run) → Surrounds shapes ctx_len s opened run →
    JumpsToSlot i run.state.place → Describes a (scene_of s run) run.state → Acting i s run b taken) →
    Transfers i shapes ctx_len a b taken
acts-transfers i shapes ctx_len a b taken plain f = record {
  goes = λ s opened run w t d. acts-goes i s opened run b taken plain (f s opened run w t d);
  leads = λ s opened run answer new_store new_run w t d h.
      acts-leads i s run b taken answer new_store new_run (f s opened run w t d)
      ((plain s opened run answer new_store new_run).1 h);
}

-- A step of the run by itself is the only one, where no element is accessed.
pub by-itself : (i : Insn) (s : Store) (run : Run) (b : AbsState) (taken : Option AbsState) (out : Outcome) →
    AllBytes s.elements → after i (environment run) run.state ≡ Some out →
    ((other : Outcome) (fs : List Element) → AccessesElement i s.elements run.state other fs → ⊥) →
    LandsDescribed i b taken (scene_of s run) run.state.place out → Acting i s run b taken
by-itself i s run b taken out bytes e plain r = record {
  out = out;
  es = s.elements;
  acts = inl (e, refl);
  only = λ other fs h. only-one h;
  bytes = bytes;
  reaches = r;
}
  where
    only-one : {other : Outcome} {fs : List Element} → Acts i (environment run) s.elements run.state other fs → (out ≡ other) × (s.elements ≡ fs)
    only-one {other} {fs} (inl h) = (same_Some out other (sym e ∙ h.0), sym h.1)
    only-one {other} {fs} (inr h) = absurd (plain other fs h)

-- what holds of a step alone holds in the machine
pub no-call : (i : Insn) → is_call i ≡ false → IsNoCall i
no-call (Call kind imm) e s opened run answer new_store new_run = absurd (cc)
no-call i e s opened run answer new_store new_run = (
  λ h. of_kind i s opened run answer new_store new_run h,
  λ h.
      by_kind i s opened run answer new_store new_run h,
)

environment-is : (shapes : List MapShape) (ctx_len : ℕ) (s : Store) (opened : List Section) (run : Run) →
    Surrounds shapes ctx_len s opened run → IsEnvironment ctx_len (length shapes) (environment run)
environment-is shapes ctx_len s opened run w = record { long = w.long; bytes = w.context; bound = w.bound.count }

pub alone_transfers : (i : Insn) (shapes : List MapShape) (ctx_len : ℕ) (a b : AbsState) (taken : Option AbsState) →
    is_call i ≡ false → TransfersAlone i shapes ctx_len a b taken → Transfers i shapes ctx_len a b taken
alone_transfers i shapes ctx_len a b taken e f = acts-transfers i shapes ctx_len a b taken (no-call i e) (λ s opened run w t d.
    let x = f (scene_of s run) (environment run) run.state (environment-is shapes ctx_len s opened run w) t d in
    by-itself i s run b taken x.out w.bytes x.after_is (λ other fs h. x.alone s.elements fs other h) x.lands)

-- null tests
number-of : (ρ : Naming) (id : ℕ) (v : Value) → ρ id ≡ None → v ≡ found_value (ρ id) → v ≡ Number 0
number-of ρ id v e h = h ∙ ap found_value e

element-of : (ρ : Naming) (id n : ℕ) (v : Value) → ρ id ≡ Some n → v ≡ found_value (ρ id) → v ≡ Pointer (Elem n (pos 0))
element-of ρ id n v e h = h ∙ ap found_value e

module _ (c : Scene) (ρ : Naming) (id : ℕ) where
  module _ (zero_is : Scalar) (holds : Holds zero_is 0) (null : ρ id ≡ None) where
    null-of : (k : Kind) (v : Value) → IsOf c ρ k v → IsOf c ρ (null_kind id zero_is k) v
    null-of Blank v h = tt
    null-of Mixed v h = tt
    null-of Ended v h = tt
    null-of (Num s) v h = h
    null-of (CtxAt o) v h = h
    null-of (FrameAt o) v h = h
    null-of (MapAt map) v h = h
    null-of (ValueAt map s) v h = h
    null-of (MaybeNull map i) v h = elim (cases_eq i id) [
      | inl e ↦ subst (λ b. IsOf c ρ (if b then Num zero_is else MaybeNull map i) v) (sym (eq-eqb i id e))
          (0, number-of ρ i v (ap ρ e ∙ null) h.0, omega arith, holds)
      | inr n ↦ subst (λ b. IsOf c ρ (if b then Num zero_is else MaybeNull map i) v) (sym (ne_eqb i id n)) h
    ]

    zero-byte : (i : ℕ) (v : Value) (x : Cell) → v ≡ Number 0 → x ≡ part_of i v → (b : ℕ) × (x ≡ Byte b) × (b < 256)
    zero-byte i v x e h = (0 / 256 ^ i % 256, h ∙ ap (part_of i) e, mod_below _ 256 (omega arith))

    null-part : (σ : Stored) (k : ℕ) (kind : Kind) (x : Cell) → IsOfCell c ρ σ k (PartCell kind) x → IsOfCell c ρ σ k (null_cell id (PartCell kind)) x
    null-part σ k Blank x h = h
    null-part σ k Mixed x h = h
    null-part σ k Ended x h = h
    null-part σ k (Num s) x h = h
    null-part σ k (CtxAt o) x h = h
    null-part σ k (FrameAt o) x h = h
    null-part σ k (MapAt map) x h = h
    null-part σ k (ValueAt map s) x h = h
    null-part σ k (MaybeNull map i) x h = elim (cases_eq i id) [
      | inl e ↦ subst (λ b. IsOfCell c ρ σ k (if b then ByteCell else PartCell (MaybeNull map i)) x)
          (sym (eq-eqb i id e)) (zero-byte (k % 8) (σ (k / 8)) x (number-of ρ i (σ (k / 8)) (ap ρ e ∙ null) h.1.0)
          h.0)
      | inr n ↦ subst (λ b. IsOfCell c ρ σ k (if b then ByteCell else PartCell (MaybeNull map i)) x) (sym (ne_eqb i id n)) h
    ]

    null-cells : (σ : Stored) (k : ℕ) (cell : CellKind) (x : Cell) → IsOfCell c ρ σ k cell x → IsOfCell c ρ σ k (null_cell id cell) x
    null-cells σ k BlankCell x h = h
    null-cells σ k MixedCell x h = h
    null-cells σ k EndedCell x h = h
    null-cells σ k ByteCell x h = h
    null-cells σ k (PartCell kind) x h = null-part σ k kind x h

  module _ (origin : Scalar) (at : HasOffset origin (pos 0)) (n : ℕ) (there : ρ id ≡ Some n) where
    there-of : (k : Kind) (v : Value) → IsOf c ρ k v → IsOf c ρ (there_kind id origin k) v
    there-of Blank v h = tt
    there-of Mixed v h = tt
    there-of Ended v h = tt
    there-of (Num s) v h = h
    there-of (CtxAt o) v h = h
    there-of (FrameAt o) v h = h
    there-of (MapAt map) v h = h
    there-of (ValueAt map s) v h = h
    there-of (MaybeNull map i) v h = elim (cases_eq i id) [
      | inl e ↦ subst (λ b. IsOf c ρ (if b then ValueAt map origin else MaybeNull map i) v) (sym (eq-eqb i id e))
          (record { n = n; offset = pos 0; is = element-of ρ i n v (ap ρ e ∙ there) h.0; there = at; held = subst (IsNullOrHeld c map) (ap ρ e ∙ there) h.1 })
      | inr ne ↦ subst (λ b. IsOf c ρ (if b then ValueAt map origin else MaybeNull map i) v) (sym (ne_eqb i id ne)) h
    ]

    there-cells : (σ : Stored) (k : ℕ) (cell : CellKind) (x : Cell) → IsOfCell c ρ σ k cell x → IsOfCell c ρ σ k (there_cell id origin cell) x
    there-cells σ k BlankCell x h = h
    there-cells σ k MixedCell x h = h
    there-cells σ k EndedCell x h = h
    there-cells σ k ByteCell x h = h
    there-cells σ k (PartCell kind) x h = (h.0, there-of kind (σ (k / 8)) h.1)

null-described : (id : ℕ) (z : Scalar) (a : AbsState) (c : Scene) (m : State) (place : ℕ) → Holds z 0 →
    (d : Describes a c m) → d.naming id ≡ None → Describes (when_null id z a) c
    (record { regs = m.regs; frame = m.frame; place = place })
null-described id z a c m place holds d null = record {
  naming = d.naming;
  stored = d.stored;
  depth = d.depth;
  near = d.near;
  regs = λ r. null-of c d.naming id z holds null (a.regs r) (m.regs r) (d.regs r);
  cells = λ k. null-cells c d.naming id z holds null d.stored k (a.cells k) (m.frame k) (d.cells k);
}

there-described : (id n : ℕ) (o : Scalar) (a : AbsState) (c : Scene) (m : State) (place : ℕ) → HasOffset o (pos 0) →
    (d : Describes a c m) → d.naming id ≡ Some n → Describes (when_there id o a) c
    (record { regs = m.regs; frame = m.frame; place = place })
there-described id n o a c m place at d there = record {
  naming = d.naming;
  stored = d.stored;
  depth = d.depth;
  near = d.near;
  regs = λ r. there-of c d.naming id o at n there (a.regs r) (m.regs r) (d.regs r);
  cells = λ k. there-cells c d.naming id o at n there d.stored k (a.cells k) (m.frame k) (d.cells k);
}

-- JEQ: null is where it jumps
abbrev jeq : ℕ → ℤ → Insn
jeq dst offset = JumpIf Equal Word64 dst (Immediate (pos 0)) offset

abbrev jne : ℕ → ℤ → Insn
jne dst offset = JumpIf NotEqual Word64 dst (Immediate (pos 0)) offset

module _ (shapes : List MapShape) (ctx_len dst : ℕ) (offset : ℤ) (map id : ℕ) (a : AbsState) (z origin : Scalar)
    (holds : Holds z 0) (at : HasOffset origin (pos 0)) (e : a.regs dst ≡ MaybeNull map id) where
  jeq-acts : (s : Store) (run : Run) (bytes : AllBytes s.elements) → JumpsToSlot (jeq dst offset) run.state.place →
      (d : Describes a (scene_of s run) run.state) (o : Option ℕ) → d.naming id ≡ o →
      Acting (jeq dst offset) s run (when_there id origin a) (Some (when_null id z a))
  jeq-acts s run bytes t d None is =
      let v : run.state.regs dst ≡ Number 0 = number-of d.naming id (run.state.regs dst) is
      (reg-is a (scene_of s run) run.state dst (MaybeNull map id) d e).0 in
      let x = t offset refl in
      by-itself (jeq dst offset) s run (when_there id origin a) (Some (when_null id z a))
      (Moves (record { regs = run.state.regs; frame = run.state.frame; place = x.0 })) bytes
      (ap (λ x. decided Equal Word64 (Immediate (pos 0)) x (Number (immediate (pos 0))) >>= λ taken.
      if taken then jumps_by offset run.state else Some (Moves (forward 1 run.state))) v ∙
      ap (λ z. jumps_to z run.state) (sym x.1))
      (λ other fs h. h)
      (inr ((offset, refl, x.1), null-described id z a (scene_of s run) run.state x.0 holds d is))
  jeq-acts s run bytes t d (Some b) is =
      let v : run.state.regs dst ≡ Pointer (Elem b (pos 0)) =
      element-of d.naming id b (run.state.regs dst) is
      (reg-is a (scene_of s run) run.state dst (MaybeNull map id) d e).0 in
      by-itself (jeq dst offset) s run (when_there id origin a) (Some (when_null id z a)) (Moves (forward 1 run.state)) bytes
      (ap (λ x. decided Equal Word64 (Immediate (pos 0)) x (Number (immediate (pos 0))) >>= λ taken.
      if taken then jumps_by offset run.state else Some (Moves (forward 1 run.state))) v)
      (λ other fs h. h)
      (inl (refl, refl, there-described id b origin a (scene_of s run) run.state (run.state.place + 1) at d is))

  pub equal_transfers : Transfers (jeq dst offset) shapes ctx_len a (when_there id origin a) (Some (when_null id z a))
  equal_transfers = acts-transfers (jeq dst offset) shapes ctx_len a (when_there id origin a) (Some (when_null id z a)) (no-call (jeq dst offset) refl)
      (λ s opened run w t d. jeq-acts s run w.bytes t d (d.naming id) refl)

  jne-acts : (s : Store) (run : Run) (bytes : AllBytes s.elements) → JumpsToSlot (jne dst offset) run.state.place →
      (d : Describes a (scene_of s run) run.state) (o : Option ℕ) → d.naming id ≡ o →
      Acting (jne dst offset) s run (when_null id z a) (Some (when_there id origin a))
  jne-acts s run bytes t d None is =
      let v : run.state.regs dst ≡ Number 0 = number-of d.naming id (run.state.regs dst) is
      (reg-is a (scene_of s run) run.state dst (MaybeNull map id) d e).0 in
      by-itself (jne dst offset) s run (when_null id z a) (Some (when_there id origin a)) (Moves (forward 1 run.state)) bytes
      (ap (λ x. decided NotEqual Word64 (Immediate (pos 0)) x (Number (immediate (pos 0))) >>= λ taken.
      if taken then jumps_by offset run.state else Some (Moves (forward 1 run.state))) v)
      (λ other fs h. h)
      (inl (refl, refl, null-described id z a (scene_of s run) run.state (run.state.place + 1) holds d is))
  jne-acts s run bytes t d (Some b) is =
      let v : run.state.regs dst ≡ Pointer (Elem b (pos 0)) =
      element-of d.naming id b (run.state.regs dst) is
      (reg-is a (scene_of s run) run.state dst (MaybeNull map id) d e).0 in
      let x = t offset refl in
      by-itself (jne dst offset) s run (when_null id z a) (Some (when_there id origin a))
      (Moves (record { regs = run.state.regs; frame = run.state.frame; place = x.0 })) bytes
      (ap (λ x. decided NotEqual Word64 (Immediate (pos 0)) x (Number (immediate (pos 0))) >>= λ taken.
      if taken then jumps_by offset run.state else Some (Moves (forward 1 run.state))) v ∙
      ap (λ z. jumps_to z run.state) (sym x.1))
      (λ other fs h. h)
      (inr ((offset, refl, x.1), there-described id b origin a (scene_of s run) run.state x.0 at d is))

  pub not_equal_transfers : Transfers (jne dst offset) shapes ctx_len a (when_null id z a) (Some (when_there id origin a))
  not_equal_transfers = acts-transfers (jne dst offset) shapes ctx_len a (when_null id z a) (Some (when_there id origin a)) (no-call (jne dst offset) refl)
      (λ s opened run w t d. jne-acts s run w.bytes t d (d.naming id) refl)
