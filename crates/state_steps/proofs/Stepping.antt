-- Steps of instructions that have one state behind them, and of conditional jumps.
use Rattle.bpf_model.proofs.Prelude.{◌≡◌, ℕ, ◌<◌, ◌≤◌, List, Option, Some, None, refl, sym, ap, subst, ◌∙◌, inl, inr, ℤ, pos, Bool, true, false, Ok, IfSome}
use Rattle.bpf_model.proofs.Prelude.{if◌then◌else◌, nat_lt, ◌||◌, cases_lt, ltb-true, none-some, same_Some, found_value, operand_value, State}
use Rattle.effects.proofs.Prelude.{IsNull, IsThere, AbsState, Forks, ForksOnNull, Splits, MayLookUp, is_array_of, helper_fault, section_fault, InsnFault}
use Rattle.effects.proofs.Prelude.{OutsideSection, ComparesNumbers, RegKind}
use Rattle.model_laws.proofs.Prelude.{MapShape, Helper, CallKind, Insn, Call, JumpIf, Operand, Register, Immediate, Condition, Equal, NotEqual, Size, Word64}
use Rattle.model_laws.proofs.Prelude.{Value, Pointer, Elem, Names}
use Rattle.plan_laws.proofs.Prelude.{Kind, Num, Scene, Naming, IsOf, Transfers, AreAlike}
use Rattle.register_kinds.proofs.Prelude.{learnt, learnt_kind, kind_of, kind_in, state_of, AreBelow, kind_at}
use Rattle.bpf_model.specs.declared.insn.CallKind.TheVariants as callee
use Rattle.scalar_domain.specs.declared.scalar.Scalar.{Scalar}
use Rattle.plan_laws.specs.Kinds.{AbsState as Known}
use Rattle.register_kinds.specs.declared.learn.Lesson.{Lesson}
use Rattle.register_kinds.specs.declared.learn.Lesson.TheVariants.{SectionEnds}
use Rattle.register_kinds.specs.declared.kind.RegKind.TheVariants as kinds
use Rattle.effects.specs.declared.region.Region.{Region}
use Rattle.effects.specs.declared.region.Region.TheVariants as regions
use Rattle.effects.specs.Accesses.{IsBase}
use Rattle.effects.proofs.CallLaws.{array_of}
use Rattle.state_steps.specs.declared.flow.Flow.{Flow}
use Rattle.state_steps.specs.Steps.{IsBranch, base_of, IsInRegion, Compares, IsComparable, LooksUp}
use Rattle.state_steps.specs.Facts.{IsReadyInsn, KeepsFacts}
use Rattle.state_steps.specs.Lookups.{Serves}
use Rattle.state_steps.specs.Stepped.{single_flow, Stepped, ComparesWell}
use Rattle.state_steps.specs.Floor.{KeepsInsnFloor, KeepsNumbers}

-- a lookup reaches no memory by a register
no-base : (i : Insn) → LooksUp i → base_of i ≡ None
no-base (Call kind imm) h = refl
no-base i h = absurd h

-- an instruction that reaches no memory, compares nothing and has one state behind it
pub record IsQuiet (i : Insn) : Type 0 where
  pub no_base : base_of i ≡ None
  pub no_test : (r : ℕ) → Compares i r → ⊥
  pub no_branch : IsBranch i → ⊥

pub quiet_step : (i : Insn) (shapes : List MapShape) (ctx_len top : ℕ) (a b : AbsState) (f : Flow) → f ≡ single_flow regions.None → IsQuiet i
    → Transfers i shapes ctx_len (state_of a) (state_of b) None → AreBelow top b
    → (IsReadyInsn i (state_of a) → KeepsFacts i (state_of a) (state_of b)) →
    Serves shapes i (state_of a) (state_of b) None → KeepsInsnFloor i (state_of a) (state_of b) None →
    KeepsNumbers i (state_of a) (state_of b) → (LooksUp i → MayLookUp shapes (state_of a)) →
    Stepped i shapes ctx_len top a b (Ok f)
quiet_step i shapes ctx_len top a b f e q sound below keeps serves floor others looks_up =
    subst (λ (f : Flow). Stepped i shapes ctx_len top a b (Ok f)) (sym e) (record {
      done = record {
        transfer = record {
          sound = sound;
          branches = λ x. absurd (q.no_branch x);
          reaches = λ r c m x d. absurd (none-some r (sym q.no_base ∙ x));
          compares = λ r c m x d. absurd (q.no_test r x);
          looks_up = looks_up;
          keeps = keeps;
          keeps_taken = λ ready. tt;
          serves = serves;
          floor = floor;
          others = others;
          others_taken = tt;
        };
        taken_below = tt;
      };
      below = below;
      unchanged = tt;
      accepts = λ ready. tt;
      accepts_maps = λ ready. tt;
    })

-- a test for null of what may be null
null_comparable : (equal : Bool) (dst : ℕ) (offset : ℤ) (v : Value) (o : Option ℕ) → v ≡ found_value o
    → IsComparable (JumpIf (if equal then Equal else NotEqual) Word64 dst (Immediate (pos 0)) offset) v
null_comparable equal dst offset v None e = inl (0, e)
null_comparable true dst offset v (Some n) e = inr (refl, n, pos 0, e)
null_comparable false dst offset v (Some n) e = inr (refl, n, pos 0, e)

-- a test for null of an element's value
value_comparable : (equal : Bool) (dst n : ℕ) (offset o : ℤ) (v : Value) → v ≡ Pointer (Elem n o)
    → IsComparable (JumpIf (if equal then Equal else NotEqual) Word64 dst (Immediate (pos 0)) offset) v
value_comparable true dst n offset o v e = inr (refl, n, o, e)
value_comparable false dst n offset o v e = inr (refl, n, o, e)

-- a comparison that is one for null
pub record IsNullTestBy (equal : Bool) (condition : Condition) (size : Size) (src : Operand) : Type 0 where
  pub condition_is : condition ≡ (if equal then Equal else NotEqual)
  pub size_is : size ≡ Word64
  pub src_is : src ≡ Immediate (pos 0)

by_test : (P : Condition → Size → Operand → Type 0) (equal : Bool) (condition : Condition) (size : Size) (src : Operand) → IsNullTestBy equal condition size src
    → P (if equal then Equal else NotEqual) Word64 (Immediate (pos 0)) → P condition size src
by_test P equal condition size src t p =
    subst (λ (x : Condition). P x size src) (sym t.condition_is)
    (subst (λ (x : Size). P (if equal then Equal else NotEqual) x src) (sym t.size_is)
    (subst (λ (x : Operand). P (if equal then Equal else NotEqual) Word64 x) (sym t.src_is) p))

pub null_forks : (equal : Bool) (condition : Condition) (size : Size) (dst : ℕ) (src : Operand) (a b t : AbsState) →
    IsNullTestBy equal condition size src → ForksOnNull equal dst a b t → Forks condition size dst src a b t
null_forks equal condition size dst src a b t is f = by_test (λ x y z. Forks x y dst z a b t) equal condition size src is f

pub maybe_compares : (equal : Bool) (condition : Condition) (size : Size) (dst map id : ℕ) (src : Operand)
    (a : AbsState) → IsNullTestBy equal condition size src → kind_in a.regs dst ≡ kinds.MaybeNull map id
    → ComparesWell condition size dst src (state_of a)
maybe_compares equal condition size dst map id src a is e = by_test (λ x y z. ComparesWell x y dst z (state_of a)) equal condition size src is
    (λ offset r c m x d. elim x [
      | inl p ↦ null_comparable equal dst offset (m.regs r) (d.naming id)
          (subst (λ (k : Kind). IsOf c d.naming k (m.regs r)) (ap (λ q. kind_of (kind_in a.regs q)) p ∙ ap kind_of e)
          (d.regs r)).0
      | inr p ↦ absurd p
    ])

pub value_compares : (equal : Bool) (condition : Condition) (size : Size) (dst map : ℕ) (s : Scalar) (src : Operand)
    (a : AbsState) → IsNullTestBy equal condition size src → kind_in a.regs dst ≡ kinds.Value map s
    → ComparesWell condition size dst src (state_of a)
value_compares equal condition size dst map s src a is e = by_test (λ x y z. ComparesWell x y dst z (state_of a)) equal condition size src is
    (λ offset r c m x d. elim x [
      | inl p ↦ let h = subst (λ (k : Kind). IsOf c d.naming k (m.regs r))
          (ap (λ q. kind_of (kind_in a.regs q)) p ∙ ap kind_of e) (d.regs r) in value_comparable equal dst h.n offset
          h.offset (m.regs r) h.is
      | inr p ↦ absurd p
    ])

named : (src : Operand) (r : ℕ) (m : State) → Names src r → m.regs r ≡ operand_value src m.regs
named (Register s) r m e = ap m.regs e
named (Immediate imm) r m e = absurd e

pub numbers_compare : (condition : Condition) (size : Size) (dst : ℕ) (src : Operand) (a : AbsState) →
    ComparesNumbers (state_of a) dst src → ComparesWell condition size dst src (state_of a)
numbers_compare condition size dst src a h offset r c m x d =
    let n = h c m d in
    elim x [
      | inl p ↦ inl (n.0.0, ap m.regs p ∙ n.0.1)
      | inr p ↦ inl (n.1.0, named src r m p ∙ n.1.1)
    ]

-- the register of an access refers into the region that is answered
in_region : (region : Region) (k : Kind) (c : Scene) (ρ : Naming) (v : Value) → IsBase region k → IsOf c ρ k v → IsInRegion c region v
in_region regions.None k c ρ v b h = absurd b
in_region regions.Ctx k c ρ v b h = let x = subst (λ (k : Kind). IsOf c ρ k v) b.1 h in (x.offset, x.is)
in_region regions.Frame k c ρ v b h = let x = subst (λ (k : Kind). IsOf c ρ k v) b.1 h in (b.0, x)
in_region (regions.Value map) k c ρ v b h = let x = subst (λ (k : Kind). IsOf c ρ k v) b.1 h in (x.n, x.offset, x.is, x.held)

-- an instruction that reaches memory by this register, compares nothing and has one state behind it
pub record IsAccess (i : Insn) (base : ℕ) : Type 0 where
  pub base_is : base_of i ≡ Some base
  pub no_test : (r : ℕ) → Compares i r → ⊥
  pub no_branch : IsBranch i → ⊥

pub access_step : (i : Insn) (shapes : List MapShape) (ctx_len top : ℕ) (a b : AbsState) (f : Flow) (region : Region)
    (base : ℕ) → f ≡ single_flow region → IsAccess i base → IsBase region (kind_at a.regs base)
    → Transfers i shapes ctx_len (state_of a) (state_of b) None → AreBelow top b →
    (IsReadyInsn i (state_of a) → KeepsFacts i (state_of a) (state_of b)) →
    Serves shapes i (state_of a) (state_of b) None → KeepsInsnFloor i (state_of a) (state_of b) None →
    KeepsNumbers i (state_of a) (state_of b) → Stepped i shapes ctx_len top a b (Ok f)
access_step i shapes ctx_len top a b f region base e q is sound below keeps serves floor others =
    subst (λ (f : Flow). Stepped i shapes ctx_len top a b (Ok f)) (sym e) (record {
      done = record {
        transfer = record {
          sound = sound;
          branches = λ x. absurd (q.no_branch x);
          reaches = λ r c m x d. subst (λ (n : ℕ). IsInRegion c region (m.regs n)) (same_Some base r (sym q.base_is ∙ x))
              (in_region region (kind_at a.regs base) c d.naming (m.regs base) is (d.regs base));
          compares = λ r c m x d. absurd (q.no_test r x);
          looks_up = λ h. absurd (none-some base (sym (no-base i h) ∙ q.base_is));
          keeps = keeps;
          keeps_taken = λ ready. tt;
          serves = serves;
          floor = floor;
          others = others;
          others_taken = tt;
        };
        taken_below = tt;
      };
      below = below;
      unchanged = tt;
      accepts = λ ready. tt;
      accepts_maps = λ ready. tt;
    })

-- what may be null and an element's value are no numbers
pub null_no_number : (k : RegKind) (map id : ℕ) (s : Scalar) → k ≡ kinds.MaybeNull map id → kind_of k ≡ Num s → ⊥
null_no_number k map id s e n = (let z : kind_of (kinds.MaybeNull map id) ≡ Num s = ap kind_of (sym e) ∙ n in cc)

pub value_no_number : (k : RegKind) (map : ℕ) (offset s : Scalar) → k ≡ kinds.Value map offset → kind_of k ≡ Num s → ⊥
value_no_number k map offset s e n = (let z : kind_of (kinds.Value map offset) ≡ Num s = ap kind_of (sym e) ∙ n in cc)

-- numbers in all registers stay as they are
abbrev pub KeepsAllNumbers : Known → Known → Type 0
KeepsAllNumbers a b = (r : ℕ) (s : Scalar) → a.regs r ≡ Num s → b.regs r ≡ Num s

-- a test for null leaves numbers
learnt_number : (lesson : Lesson) (s : Scalar) → learnt_kind lesson (Num s) ≡ Num s
learnt_number (SectionEnds shapes) s = refl
learnt_number (IsNull id) s = refl
learnt_number (IsThere id) s = refl

learnt_numbers : (lesson : Lesson) (a b : Known) → AreAlike (learnt lesson a) b → KeepsAllNumbers a b
learnt_numbers lesson a b e r s n = e.regs r ∙ (ap (learnt_kind lesson) n ∙ learnt_number lesson s)

-- both edges of a test for null: where control falls through, and where it jumps
pub null_others : (equal : Bool) (id : ℕ) (a b t : AbsState) → (equal ≡ true → Splits id a t b) →
    (equal ≡ false → Splits id a b t) → KeepsAllNumbers (state_of a) (state_of b)
null_others true id a b t f g = learnt_numbers (IsThere id) (state_of a) (state_of b) (f refl).is_there
null_others false id a b t f g = learnt_numbers (IsNull id) (state_of a) (state_of b) (g refl).is_null

pub null_others_taken : (equal : Bool) (id : ℕ) (a b t : AbsState) → (equal ≡ true → Splits id a t b) →
    (equal ≡ false → Splits id a b t) → KeepsAllNumbers (state_of a) (state_of t)
null_others_taken true id a b t f g = learnt_numbers (IsNull id) (state_of a) (state_of t) (f refl).is_null
null_others_taken false id a b t f g = learnt_numbers (IsThere id) (state_of a) (state_of t) (g refl).is_there

pub above_five : (r : ℕ) → (r ≤ 5 → ⊥) → 5 < r
above_five r n = elim (cases_lt 5 r) [
  | inl h ↦ h
  | inr h ↦ absurd (n h)
]

-- a lookup that is not refused is made inside a section, or in an array
pub inside_here : (kind : CallKind) (imm : ℤ) (shapes : List MapShape) (a : Known) (P : InsnFault → Type 0) →
    LooksUp (Call kind imm) → IfSome (section_fault kind imm shapes a) P → ((e : InsnFault) → P e → ⊥) →
    MayLookUp shapes a
inside_here callee.Helper imm shapes a P h first none =
    by (nat_lt 0 a.depth) (is_array_of shapes (a.regs 1)) refl refl
    (subst (λ (o : Option Helper). IfSome (helper_fault o shapes a) P) h first)
  where
    by : (inside array : Bool) → nat_lt 0 a.depth ≡ inside → is_array_of shapes (a.regs 1) ≡ array →
        IfSome (if inside || array then None else Some OutsideSection) P → MayLookUp shapes a
    by true array e f first = inl (ltb-true 0 a.depth e)
    by false true e f first = inr (array_of shapes (a.regs 1) f)
    by false false e f first = absurd (none OutsideSection first)
inside_here callee.Kernel imm shapes a P h first none = absurd h
