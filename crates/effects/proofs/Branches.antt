-- Conditional jumps and exits lead from described runs to described ones.
use Rattle.bpf_model.proofs.Prelude.{◌≡◌, ℕ, ◌+◌, ◌^◌, ◌<◌, List, Some, None, inl, inr, refl, sym, ap, subst, ◌∙◌, ℤ, pos, true, false, Bool, if◌then◌else◌}
use Rattle.bpf_model.proofs.Prelude.{cases_eq, compares, immediate, ◌>>=◌, number, operand_value, decided, State, Environment, Moves, Exits, forward}
use Rattle.bpf_model.proofs.Prelude.{jumps_to, jumps_by}
use Rattle.effects.proofs.Prelude.{RegKind, HasValue, Forks, ForksOnNull, ComparesNumbers, Narrows, AreNarrowed, operand_kind}
use Rattle.model_laws.proofs.Prelude.{MapShape, Jump, JumpLong, JumpIf, Exit, Operand, Register, Immediate, Condition, Equal, NotEqual, Size, Word64, Number}
use Rattle.model_laws.proofs.Prelude.{Names}
use Rattle.plan_laws.proofs.Prelude.{Num, ValueAt, AbsState, Scene, Describes, with_kind, HasNumber, JumpsToSlot, ActsAlone, Transfers, AreAlike}
use Rattle.register_kinds.proofs.Prelude.{kind_of, kind_in, state_of}
use Rattle.scalar_domain.proofs.Prelude.{Holds, KeepsEdgeFloor}
use Rattle.scalar_domain.specs.declared.scalar.Scalar.{Scalar}
use Rattle.plan_laws.proofs.Sets.{placed-described}
use Rattle.plan_laws.proofs.Arguments.{reg-is}
use Rattle.plan_laws.proofs.Local.{alone_transfers}
use Rattle.register_kinds.specs.declared.kind.RegKind.TheVariants as kinds
use Rattle.register_kinds.specs.declared.state.AbsState.{AbsState as StateHere}
use Rattle.effects.specs.Narrowing.{SetsSides, NarrowsKnown}
use Rattle.register_kinds.proofs.Setting.{set-there, set-elsewhere}
use Rattle.effects.proofs.Known.{same_num}

-- the sides of a comparison become numbers, and all else stays as it is
pub narrowed_one : (dst : ℕ) (src : Operand) (imm : ℤ) (x : Scalar) (a b : StateHere) → src ≡ Immediate imm →
    AreAlike (with_kind dst (Num x) (state_of a)) (state_of b) → AreNarrowed dst src (state_of a) (state_of b)
narrowed_one dst src imm x a b is e = subst (λ (o : Operand). AreNarrowed dst o (state_of a) (state_of b)) (sym is) (record {
  sides = λ r p. elim p [
    | inl q ↦ (x, set-there dst r (Num x) (state_of a) (state_of b) e q)
    | inr q ↦ absurd q
  ];
  others = λ r n. set-elsewhere dst r (Num x) (state_of a) (state_of b) e (λ q. n (inl q));
  cells = e.cells;
  depth = e.depth;
})

pub narrowed_both : (dst r : ℕ) (src : Operand) (x y : Scalar) (a b t : StateHere) → src ≡ Register r →
    AreAlike (with_kind r (Num y) (state_of a)) (state_of b) →
    AreAlike (with_kind dst (Num x) (state_of b)) (state_of t)
    → AreNarrowed dst src (state_of a) (state_of t)
narrowed_both dst r src x y a b t is e f = subst (λ (o : Operand). AreNarrowed dst o (state_of a) (state_of t)) (sym is) (record {
  sides = λ s p. elim (cases_eq s dst) [
    | inl q ↦ (x, set-there dst s (Num x) (state_of b) (state_of t) f q)
    | inr n ↦ (
      y,
      set-elsewhere dst s (Num x) (state_of b) (state_of t) f n ∙
          set-there r s (Num y) (state_of a) (state_of b) e (elim p [ inl q ↦ absurd (n q) | inr q ↦ q ]),
    )
  ];
  others = λ s n. set-elsewhere dst s (Num x) (state_of b) (state_of t) f (λ q. n (inl q)) ∙
      set-elsewhere r s (Num y) (state_of a) (state_of b) e (λ q. n (inr q));
  cells = λ k. f.cells k ∙ e.cells k;
  depth = f.depth ∙ e.depth;
})

-- a conditional jump goes along one of its two edges
module _ (condition : Condition) (size : Size) (dst : ℕ) (src : Operand) (offset : ℤ) (b t : AbsState) (c : Scene) (env : Environment) (m : State) where
  branch : (p q : ℕ) (taken : Bool) → compares size condition p q ≡ taken → m.regs dst ≡ Number p →
      operand_value src m.regs ≡ Number q → (taken ≡ true → Describes t c m) → (taken ≡ false → Describes b c m) →
      JumpsToSlot (JumpIf condition size dst src offset) m.place
      → ActsAlone (JumpIf condition size dst src offset) b (Some t) c env m
  branch p q true is e f yea nay target = let x = target offset refl in record {
    out = Moves (record { regs = m.regs; frame = m.frame; place = x.0 });
    after_is = ap (λ v. decided condition size src v (operand_value src m.regs) >>= λ taken. if taken then jumps_by offset m else Some (Moves (forward 1 m))) e
        ∙ (ap (λ v. (number v >>= λ k. Some (compares size condition p k)) >>= λ taken. if taken then jumps_by offset m else Some (Moves (forward 1 m))) f
        ∙ ap (λ (taken : Bool). if taken then jumps_by offset m else Some (Moves (forward 1 m))) is
        ∙ ap (λ z. jumps_to z m) (sym x.1));
    alone = λ es fs other h. h;
    lands = inr ((offset, refl, x.1), placed-described t c m x.0 (yea refl));
  }
  branch p q false is e f yea nay target = record {
    out = Moves (forward 1 m);
    after_is = ap (λ v. decided condition size src v (operand_value src m.regs) >>= λ taken. if taken then jumps_by offset m else Some (Moves (forward 1 m))) e
        ∙ (ap (λ v. (number v >>= λ k. Some (compares size condition p k)) >>= λ taken. if taken then jumps_by offset m else Some (Moves (forward 1 m))) f
        ∙ ap (λ (taken : Bool). if taken then jumps_by offset m else Some (Moves (forward 1 m))) is);
    alone = λ es fs other h. h;
    lands = inl (refl, refl, placed-described b c m (m.place + 1) (nay refl));
  }

-- what is left of the numbers where a condition comes out so
abbrev pub Refines : Size → Condition → Scalar → Scalar → Scalar → Scalar → Bool → Type 0
Refines size condition x y x' y' taken = (p q : ℕ) → p < 2 ^ 64 → q < 2 ^ 64 → Holds x p → Holds y q →
    compares size condition p q ≡ taken → Holds x' p × Holds y' q

pub fork_sound : (condition : Condition) (size : Size) (dst : ℕ) (src : Operand) (x y tx ty fx fy : Scalar)
    (a b t : StateHere) → kind_in a.regs dst ≡ kinds.Num x → HasValue (state_of a) src (Num y)
    → Refines size condition x y tx ty true → Refines size condition x y fx fy false →
    Narrows dst src tx ty (state_of a) (state_of t) → Narrows dst src fx fy (state_of a) (state_of b) →
    Forks condition size dst src a b t
fork_sound condition size dst src x y tx ty fx fy a b t e value yea nay tn fn shapes ctx_len offset =
    alone_transfers (JumpIf condition size dst src offset) shapes ctx_len (state_of a) (state_of b) (Some (state_of t)) refl (λ c env m i target d.
    let p = reg-is (state_of a) c m dst (Num x) d (ap kind_of e) in
    let q = value c m d in
    branch condition size dst src offset (state_of b) (state_of t) c env m p.0 q.0 (compares size condition p.0 q.0) refl p.1 q.1
    (λ h. let r = yea p.0 q.0 p.2 q.2 p.3 q.3 h in tn c m d (p.0, p.1, p.2, r.0) (q.0, q.1, q.2, r.1))
    (λ h. let r = nay p.0 q.0 p.2 q.2 p.3 q.3 h in fn c m d (p.0, p.1, p.2, r.0) (q.0, q.1, q.2, r.1)) target)

pub numbers_compared : (dst : ℕ) (src : Operand) (x y : Scalar) (a : StateHere) → kind_in a.regs dst ≡ kinds.Num x →
    HasValue (state_of a) src (Num y) → ComparesNumbers (state_of a) dst src
numbers_compared dst src x y a e value c m d =
    let p = reg-is (state_of a) c m dst (Num x) d (ap kind_of e) in
    let q = value c m d in
    ((p.0, p.1), (q.0, q.1))

-- a value is never null
pub value_forks : (equal : Bool) (dst map : ℕ) (s : Scalar) (a t : StateHere) → kind_in a.regs dst ≡ kinds.Value map s → t ≡ a → ForksOnNull equal dst a a t
value_forks true dst map s a t e same shapes ctx_len offset =
    alone_transfers (JumpIf Equal Word64 dst (Immediate (pos 0)) offset) shapes ctx_len (state_of a) (state_of a)
    (Some (state_of t)) refl (λ c env m i target d.
    let x = reg-is (state_of a) c m dst (ValueAt map s) d (ap kind_of e) in record {
      out = Moves (forward 1 m);
      after_is = ap (λ v. decided Equal Word64 (Immediate (pos 0)) v (Number (immediate (pos 0))) >>= λ taken.
          if taken then jumps_by offset m else Some (Moves (forward 1 m))) x.is;
      alone = λ es fs other h. h;
      lands = inl (refl, refl, placed-described (state_of a) c m (m.place + 1) d);
    })
value_forks false dst map s a t e same shapes ctx_len offset =
    alone_transfers (JumpIf NotEqual Word64 dst (Immediate (pos 0)) offset) shapes ctx_len (state_of a) (state_of a)
    (Some (state_of t)) refl (λ c env m i target d.
    let y = target offset refl in
    let x = reg-is (state_of a) c m dst (ValueAt map s) d (ap kind_of e) in record {
      out = Moves (record { regs = m.regs; frame = m.frame; place = y.0 });
      after_is = ap (λ v. decided NotEqual Word64 (Immediate (pos 0)) v (Number (immediate (pos 0))) >>= λ taken.
          if taken then jumps_by offset m else Some (Moves (forward 1 m))) x.is ∙ ap (λ z. jumps_to z m) (sym y.1);
      alone = λ es fs other h. h;
      lands = inr ((offset, refl, y.1), placed-described (state_of t) c m y.0 (subst (λ (b : StateHere). Describes (state_of b) c m) (sym same) d));
    })

-- an exit outside every section, with a number in r0, has its step
pub exit_sound : (a : StateHere) (k : RegKind) (s : Scalar) → kind_in a.regs 0 ≡ k → k ≡ kinds.Num s → a.depth ≡ 0 →
    (shapes : List MapShape) (ctx_len : ℕ) → Transfers Exit shapes ctx_len (state_of a) (state_of a) None
exit_sound a k s e f out shapes ctx_len = alone_transfers Exit shapes ctx_len (state_of a) (state_of a) None refl (λ c env m i target d.
    let n = reg-is (state_of a) c m 0 (Num s) d (ap kind_of (e ∙ f)) in record {
      out = Exits n.0;
      after_is = ap (λ v. number v >>= λ k. Some (Exits k)) n.1;
      alone = λ es fs other h. h;
      lands = d.depth ∙ out;
    })

-- a jump without a condition leaves all that is known as it is
pub jump_transfers : (offset : ℤ) (shapes : List MapShape) (ctx_len : ℕ) (a : AbsState) → Transfers (Jump offset) shapes ctx_len a a None
jump_transfers offset shapes ctx_len a = alone_transfers (Jump offset) shapes ctx_len a a None refl
    (λ c env m i target d. let x = target offset refl in record {
      out = Moves (record { regs = m.regs; frame = m.frame; place = x.0 });
      after_is = ap (λ z. jumps_to z m) (sym x.1);
      alone = λ es fs other h. h;
      lands = inr ((offset, refl, x.1), placed-described a c m x.0 d);
    })

pub jump_long_transfers : (imm : ℤ) (shapes : List MapShape) (ctx_len : ℕ) (a : AbsState) → Transfers (JumpLong imm) shapes ctx_len a a None
jump_long_transfers imm shapes ctx_len a = alone_transfers (JumpLong imm) shapes ctx_len a a None refl
    (λ c env m i target d. let x = target imm refl in record {
      out = Moves (record { regs = m.regs; frame = m.frame; place = x.0 });
      after_is = ap (λ z. jumps_to z m) (sym x.1);
      alone = λ es fs other h. h;
      lands = inr ((imm, refl, x.1), placed-described a c m x.0 d);
    })

-- the sides of a comparison, where the second is a number or a register
pub sides_one : (dst : ℕ) (src : Operand) (imm : ℤ) (x y : Scalar) (a b : StateHere) → src ≡ Immediate imm →
    AreAlike (with_kind dst (Num x) (state_of a)) (state_of b) → SetsSides dst src x y (state_of b)
sides_one dst src imm x y a b is e = subst (λ (o : Operand). SetsSides dst o x y (state_of b)) (sym is) (record {
  first = set-there dst dst (Num x) (state_of a) (state_of b) e refl;
  second = λ r names n. absurd names;
})

pub sides_both : (dst r : ℕ) (src : Operand) (x y : Scalar) (a b t : StateHere) → src ≡ Register r →
    AreAlike (with_kind r (Num y) (state_of a)) (state_of b) →
    AreAlike (with_kind dst (Num x) (state_of b)) (state_of t)
    → SetsSides dst src x y (state_of t)
sides_both dst r src x y a b t is e f = subst (λ (o : Operand). SetsSides dst o x y (state_of t)) (sym is) (record {
  first = set-there dst dst (Num x) (state_of b) (state_of t) f refl;
  second = λ s names n. set-elsewhere dst s (Num x) (state_of b) (state_of t) f n ∙ set-there r s (Num y) (state_of a) (state_of b) e names;
})

-- an edge of a comparison of numbers
pub edge_known : (size : Size) (condition : Condition) (taken : Bool) (dst : ℕ) (src : Operand)
    (p q left right : Scalar) (a b : AbsState) → a.regs dst ≡ Num p → operand_kind src a ≡ Num q
    → KeepsEdgeFloor size condition taken p q left right → SetsSides dst src left right b → NarrowsKnown size condition taken dst src a b
edge_known size condition taken dst src p q left right a b e f floor sides x y g h =
    let u : p ≡ x = same_num p x (sym e ∙ g) in
    let v : q ≡ y = same_num q y (sym f ∙ h) in record {
      left = left;
      right = right;
      sides = sides;
      floor = subst (λ x. KeepsEdgeFloor size condition taken x y left right) u (subst (λ y. KeepsEdgeFloor size condition taken p y left right) v floor);
    }

-- the sides of a comparison that stay as they are
pub sides_stay : (dst : ℕ) (src : Operand) (x y : Scalar) (a : AbsState) → a.regs dst ≡ Num x → operand_kind src a ≡ Num y →
    SetsSides dst src x y a
sides_stay dst (Register s) x y a e f = record { first = e; second = λ r names n. ap a.regs names ∙ f }
sides_stay dst (Immediate imm) x y a e f = record { first = e; second = λ r names n. absurd names }

pub narrowed_none : (dst : ℕ) (src : Operand) (x y : Scalar) (a : AbsState) → a.regs dst ≡ Num x → operand_kind src a ≡ Num y →
    AreNarrowed dst src a a
narrowed_none dst src x y a e f = record {
  sides = λ r p. elim p [ inl q ↦ (x, ap a.regs q ∙ e) | inr q ↦ named src f r q ];
  others = λ r n. refl;
  cells = λ k. refl;
  depth = refl;
}
  where
    named : (o : Operand) → operand_kind o a ≡ Num y → (r : ℕ) → Names o r → HasNumber a r
    named (Register s) g r q = (y, ap a.regs q ∙ g)
    named (Immediate imm) g r q = absurd q
