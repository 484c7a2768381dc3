-- What operations give, by the kinds of their operands; and instructions that compute or load a number or a map lead from described runs to described ones.
use Rattle.bpf_model.proofs.Prelude.{◌≡◌, ℕ, ◌+◌, ◌^◌, ◌<◌, ◌≤◌, List, length, Some, None, inl, refl, sym, ap, ap₂, subst, ◌∙◌, ℤ, pos, arith, true, false}
use Rattle.bpf_model.proofs.Prelude.{◌+ℤ◌, if◌then◌else◌, ints, lt-ltb, alu, unary, ◌>>=◌, number, operand_value, computed, unary_source, falls, slot_count}
use Rattle.bpf_model.proofs.Prelude.{State, Environment, Outcome, put, sets, after, map_value, Element}
use Rattle.effects.proofs.Prelude.{RegKind, MovesOffsets, HasValue}
use Rattle.model_laws.proofs.Prelude.{MapShape, Value, Number, Pointer, Ctx, MapRef, Elem, AluOp, Move, UnaryOp, Insn, Alu, Unary, LoadNumber, LoadMap}
use Rattle.model_laws.proofs.Prelude.{Operand, Register, Immediate, Size, Word32, IsNear, IsNearOffset, AccessesElement}
use Rattle.plan_laws.proofs.Prelude.{Kind, Blank, Num, CtxAt, MapAt, ValueAt, AbsState, Scene, HasOffset, IsOf, Describes, with_kind, IsEnvironment}
use Rattle.plan_laws.proofs.Prelude.{Transfers, is_call, AreAlike}
use Rattle.register_kinds.proofs.Prelude.{kind_of, kind_in, state_of}
use Rattle.scalar_domain.proofs.Prelude.{Holds}
use Rattle.bpf_model.specs.Step.{Moves as Goes}
use Rattle.scalar_domain.specs.declared.scalar.Scalar.{Scalar}
use Rattle.plan_laws.proofs.Sets.{set-described}
use Rattle.plan_laws.proofs.Arguments.{reg-is}
use Rattle.plan_laws.proofs.Local.{alone_transfers}
use Rattle.plan_laws.proofs.Elements.{set-is}
use Rattle.plan_laws.proofs.Planning.{to_alike}
use Rattle.register_kinds.specs.declared.kind.RegKind.TheVariants as kinds
use Rattle.register_kinds.specs.declared.state.AbsState.{AbsState as StateHere}
use Rattle.effects.specs.declared.moving.Way.{Way}
use Rattle.effects.specs.declared.moving.Way.TheVariants.{Forward, Back}
use Rattle.effects.specs.Performs.{PerformsAnywhere}
use Rattle.effects.specs.Computes.{signed_move, Combines, Computes, IsMove}
use Rattle.effects.proofs.Laws.{unary_lt, computed_numbers}
use Rattle.scalar_domain.proofs.Words.{alu_lt}

-- an operation of two numbers gives one of the numbers that the domain answers
pub numbers_combine : (size : Size) (op : AluOp) (x y : RegKind) (a b r : Scalar) → x ≡ kinds.Num a → y ≡ kinds.Num b
    → ((p q : ℕ) → p < 2 ^ 64 → q < 2 ^ 64 → Holds a p → Holds b q → Holds r (alu size op p q))
    → Combines size op (kind_of x) (kind_of y) (Num r)
numbers_combine size op x y a b r e f sound =
    subst (λ k. Combines size op (kind_of k) (kind_of y) (Num r)) (sym e) (subst (λ k. Combines size op (Num a) (kind_of k) (Num r)) (sym f)
    (λ c ρ v w i j near. (
      Number (alu size op i.0 j.0),
      ap₂ (computed size op) i.1 j.1 ∙ computed_numbers size op i.0 j.0,
      (alu size op i.0 j.0, refl, alu_lt size op i.0 j.0 i.2 j.2, sound i.0 j.0 i.2 j.2 i.3 j.3),
      tt,
    )))

-- a reference that an operation moves by a number stays in its region, and near
near-offset : (t : Scalar) (o : ℤ) → HasOffset t o → IsNearOffset o
near-offset t o h =
    let e : pos h.raised ≡ o +ℤ pos (2 ^ 29) = h.is in
    let l : h.raised ≤ 2 ^ 30 = h.limit in
    (omega (arith, ints, e, l), omega (arith, ints, e, l))

ctx-moved : (way : Way) (size : Size) (op : AluOp) (o : ℤ) (n : ℕ) → IsMove way size op →
    computed size op (Pointer (Ctx o)) (Number n) ≡ Some (Pointer (Ctx (o +ℤ signed_move way n)))
ctx-moved Forward size op o n h = ap₂ (λ s p. computed s p (Pointer (Ctx o)) (Number n)) h.0 h.1
ctx-moved Back size op o n h = ap₂ (λ s p. computed s p (Pointer (Ctx o)) (Number n)) h.0 h.1

element-moved : (way : Way) (size : Size) (op : AluOp) (e : ℕ) (o : ℤ) (n : ℕ) → IsMove way size op →
    computed size op (Pointer (Elem e o)) (Number n) ≡ Some (Pointer (Elem e (o +ℤ signed_move way n)))
element-moved Forward size op e o n h = ap₂ (λ s p. computed s p (Pointer (Elem e o)) (Number n)) h.0 h.1
element-moved Back size op e o n h = ap₂ (λ s p. computed s p (Pointer (Elem e o)) (Number n)) h.0 h.1

pub context_moves : (way : Way) (x : RegKind) (s by t : Scalar) → x ≡ kinds.Ctx s → MovesOffsets way s by t →
    (size : Size) (op : AluOp) → IsMove way size op → Combines size op (kind_of x) (Num by) (CtxAt t)
context_moves way x s by t e moves size op is = subst (λ k. Combines size op (kind_of k) (Num by) (CtxAt t)) (sym e) (λ c ρ v w i j near.
    let there = moves i.offset j.0 i.there j.2 j.3 in
    let o : ℤ = i.offset +ℤ signed_move way j.0 in (
      Pointer (Ctx o),
      ap₂ (computed size op) i.is j.1 ∙ ctx-moved way size op i.offset j.0 is,
      record { offset = o; is = refl; there = there },
      near-offset t o there,
    ))

pub value_moves : (way : Way) (x : RegKind) (map : ℕ) (s by t : Scalar) → x ≡ kinds.Value map s →
    MovesOffsets way s by t → (size : Size) (op : AluOp) → IsMove way size op →
    Combines size op (kind_of x) (Num by) (ValueAt map t)
value_moves way x map s by t e moves size op is = subst (λ k. Combines size op (kind_of k) (Num by) (ValueAt map t)) (sym e) (λ c ρ v w i j near.
    let there = moves i.offset j.0 i.there j.2 j.3 in
    let o : ℤ = i.offset +ℤ signed_move way j.0 in (
      Pointer (Elem i.n o),
      ap₂ (computed size op) i.is j.1 ∙ element-moved way size op i.n i.offset j.0 is,
      record { n = i.n; offset = o; is = refl; there = there; held = i.held },
      near-offset t o there,
    ))

pub low_combines : (size : Size) (y : RegKind) (z b r : Scalar) → size ≡ Word32 → y ≡ kinds.Num b → Holds z 0 →
    ((p q : ℕ) → p < 2 ^ 64 → q < 2 ^ 64 → Holds z p → Holds b q → Holds r (alu size Move p q))
    → Combines size Move Blank (kind_of y) (Num r)
low_combines size y z b r e f zero sound =
    subst (λ k. Combines size Move Blank (kind_of k) (Num r)) (sym f) (λ c ρ v w i j near. (
      Number (alu size Move 0 j.0),
      ap (λ (s : Size). computed s Move v w) e ∙ (ap (computed Word32 Move v) j.1 ∙ ap (λ (s : Size). Some (Number (alu s Move 0 j.0))) (sym e)),
      (alu size Move 0 j.0, refl, alu_lt size Move 0 j.0 (omega arith) j.2, sound 0 j.0 (omega arith) j.2 zero j.3),
      tt,
    ))

-- what holds of the kinds of both operands holds of the computation
near-operand : (src : Operand) (a : AbsState) (c : Scene) (m : State) → Describes a c m → IsNear (operand_value src m.regs)
near-operand (Register r) a c m d = d.near.regs_near r
near-operand (Immediate imm) a c m d = tt

pub moves_compute : (size : Size) (op : AluOp) (dst : ℕ) (src : Operand) (a : AbsState) (y k : Kind) → op ≡ Move →
    HasValue a src y → Combines size Move Blank y k → Computes size op dst src a k
moves_compute size op dst src a y k e value f = subst (λ (o : AluOp). Computes size o dst src a k) (sym e)
    (λ c m d. f c d.naming (m.regs dst) (operand_value src m.regs) tt (value c m d) (near-operand src a c m d))

pub others_compute : (size : Size) (op : AluOp) (dst : ℕ) (src : Operand) (a : StateHere) (x : RegKind) (y k : Kind) →
    kind_in a.regs dst ≡ x → HasValue (state_of a) src y → Combines size op (kind_of x) y k →
    Computes size op dst src (state_of a) k
others_compute size op dst src a x y k e value f c m d =
    f c d.naming (m.regs dst) (operand_value src m.regs) (reg-is (state_of a) c m dst (kind_of x) d (ap kind_of e))
    (value c m d) (near-operand src (state_of a) c m d)

-- an instruction that sets a register, and accesses nothing
pub record Sets (i : Insn) (ctx_len maps : ℕ) (dst : ℕ) (a : AbsState) (k : Kind) : Type 0 where
  pub no_call : is_call i ≡ false
  pub falls_on : falls i ≡ true
  pub nothing : (es fs : List Element) (m : State) (out : Outcome) → AccessesElement i es m out fs → ⊥
  pub value : (c : Scene) (env : Environment) (m : State) → IsEnvironment ctx_len maps env → (d : Describes a c m) →
      (v : Value) × (after i env m ≡ sets (slot_count i) dst v m) × IsOf c d.naming k v × IsNear v

pub sets_transfers : (i : Insn) (shapes : List MapShape) (ctx_len dst : ℕ) (a b : StateHere) (k : Kind) →
    Sets i ctx_len (length shapes) dst (state_of a) k → (10 ≡ dst → ⊥) →
    AreAlike (with_kind dst k (state_of a)) (state_of b)
    → Transfers i shapes ctx_len (state_of a) (state_of b) None
sets_transfers i shapes ctx_len dst a b k s ne alike =
    to_alike i shapes ctx_len (state_of a) (with_kind dst k (state_of a)) (state_of b) alike
    (alone_transfers i shapes ctx_len (state_of a) (with_kind dst k (state_of a)) None s.no_call (λ c env m e target d.
    let x = s.value c env m e d in record {
      out = Goes (record { regs = put dst x.0 m.regs; frame = m.frame; place = m.place + slot_count i });
      after_is = x.1 ∙ set-is (slot_count i) dst x.0 m ne;
      alone = λ es fs other h. s.nothing es fs m other h;
      lands = inl (s.falls_on, refl, set-described (state_of a) c m dst (m.place + slot_count i) k x.0 d x.2 x.3);
    }))

pub alu_sound : (op : AluOp) (size : Size) (dst : ℕ) (src : Operand) (a b : StateHere) (k : Kind) →
    Computes size op dst src (state_of a) k → (10 ≡ dst → ⊥) → AreAlike (with_kind dst k (state_of a)) (state_of b) →
    PerformsAnywhere (Alu op size dst src) a b
alu_sound op size dst src a b k f ne alike shapes ctx_len = sets_transfers (Alu op size dst src) shapes ctx_len dst a b k (record {
  no_call = refl;
  falls_on = refl;
  nothing = λ es fs m out h. h;
  value = λ c env m e d.
      let g = f c m d in
      (g.0, ap (λ o. o >>= λ v. sets 1 dst v m) g.1, g.2, g.3);
}) ne alike

pub unary_sound : (op : UnaryOp) (dst r : ℕ) (n t : Scalar) (kind : RegKind) (a b : StateHere) →
    r ≡ unary_source op dst → kind_in a.regs r ≡ kind → kind ≡ kinds.Num n →
    ((x : ℕ) → x < 2 ^ 64 → Holds n x → Holds t (unary op x)) → (10 ≡ dst → ⊥)
    → AreAlike (with_kind dst (Num t) (state_of a)) (state_of b) → PerformsAnywhere (Unary op dst) a b
unary_sound op dst r n t kind a b source is e sound ne alike shapes ctx_len = sets_transfers (Unary op dst) shapes ctx_len dst a b (Num t) (record {
  no_call = refl;
  falls_on = refl;
  nothing = λ es fs m out h. h;
  value = λ c env m i d.
      let x = reg-is (state_of a) c m r (Num n) d (ap kind_of (is ∙ e)) in (
        Number (unary op x.0),
        ap (λ q. number (m.regs q) >>= λ n. sets 1 dst (Number (unary op n)) m) (sym source) ∙
            ap (λ v. number v >>= λ n. sets 1 dst (Number (unary op n)) m) x.1,
        (unary op x.0, refl, unary_lt op x.0, sound x.0 x.2 x.3),
        tt,
      );
}) ne alike

pub number_sound : (dst n : ℕ) (t : Scalar) (a b : StateHere) → n < 2 ^ 64 → Holds t n → (10 ≡ dst → ⊥) →
    AreAlike (with_kind dst (Num t) (state_of a)) (state_of b) → PerformsAnywhere (LoadNumber dst n) a b
number_sound dst n t a b l h ne alike shapes ctx_len = sets_transfers (LoadNumber dst n) shapes ctx_len dst a b (Num t) (record {
  no_call = refl;
  falls_on = refl;
  nothing = λ es fs m out h. h;
  value = λ c env m e d. (Number n, refl, (n, refl, l, h), tt);
}) ne alike

pub map_sound : (dst : ℕ) (map : ℤ) (n maps : ℕ) (a b : StateHere) → map ≡ pos n → n < maps → (10 ≡ dst → ⊥) →
    AreAlike (with_kind dst (MapAt n) (state_of a)) (state_of b) → (shapes : List MapShape) (ctx_len : ℕ) →
    length shapes ≡ maps
    → Transfers (LoadMap dst map) shapes ctx_len (state_of a) (state_of b) None
map_sound dst map n maps a b e l ne alike shapes ctx_len long = sets_transfers (LoadMap dst map) shapes ctx_len dst a b (MapAt n) (record {
  no_call = refl;
  falls_on = refl;
  nothing = λ es fs m out h. h;
  value = λ c env m i d. (
    Pointer (MapRef n),
    ap (λ q. q >>= λ v. sets 2 dst v m) (ap (map_value env) e ∙
        ap (λ t. if t then Some (Pointer (MapRef n)) else None)
        (lt-ltb n env.maps (subst (λ k. n < k) (sym (i.bound ∙ long)) l))),
    refl,
    tt,
  );
}) ne alike
