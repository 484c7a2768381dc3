-- Where guarded lookups stand in a plain program, and how control goes through them.
use Rattle.bpf_model.proofs.Prelude.{◌≡◌, ℕ, zero, suc, ◌+◌, ◌-◌, ◌<◌, ◌≤◌, refl, sym, ◌∙◌, ap, subst, arith, inl, inr, true, List, ℤ, pos, negsuc, slice_get}
use Rattle.bpf_model.proofs.Prelude.{Option, Some, None, ◌⊎◌, cases_lt, cases_eq, none-some, same_Some, falls, distance, JumpsTo, GoesTo, Reached, slot_count}
use Rattle.bpf_model.proofs.Prelude.{starts_from, insn_at, StartsAt, starts-next, starts_increase, starts_ordered, start-inside}
use Rattle.model_laws.proofs.Prelude.{Insn, Alu, Unary, LoadNumber, LoadMap, Jump, JumpLong, JumpIf, Call, Exit, Load, LoadSigned, Store, Kernel, MapShape}
use Rattle.model_laws.proofs.Prelude.{WritesByte, lookup_call, IsValueLoad, IsGuardedLookup, IsLookupPart, HasForm, LacksRegister, lacks_call, lacks_next}
use Rattle.model_laws.proofs.Prelude.{IsPlainWithMaps, GuardedLookup, LookupPart, FrameCopy, KeyAddress, MapLoad, LookupCall, NullTest, ValueLoad, part_insn}
use Rattle.model_laws.proofs.Prelude.{part_slot}
use Rattle.plan_laws.proofs.Prelude.{AbsState}
use Rattle.verifier.proofs.Prelude.{IsInner}
use Rattle.bpf_model.specs.declared.insn.CallKind.TheVariants.{Helper}
use Rattle.model_laws.specs.PlainMaps.{KeepsSection}
use Rattle.verifier.proofs.Edges.{index_here}
use Rattle.state_steps.specs.Lookups.{Expects, Prepares}

-- the slot behind each part
abbrev pub step_slot : LookupPart → ℕ
step_slot FrameCopy = 1
step_slot KeyAddress = 2
step_slot MapLoad = 4
step_slot LookupCall = 5
step_slot NullTest = 6
step_slot ValueLoad = 7

-- a load from a value is a load
record IsLoad (i : Insn) : Type 0 where
  slots : slot_count i ≡ 1
  falls_on : falls i ≡ true
  no_jump : distance i ≡ None
  no_byte : (k : ℕ) → WritesByte i k → ⊥
  no_call : KeepsSection i

load_is : (shape : MapShape) (i : Insn) → IsValueLoad shape i → IsLoad i
load_is shape (Alu op size dst src) v = absurd v
load_is shape (Unary op dst) v = absurd v
load_is shape (LoadNumber dst n) v = absurd v
load_is shape (LoadMap dst map) v = absurd v
load_is shape (Jump offset) v = absurd v
load_is shape (JumpLong imm) v = absurd v
load_is shape (JumpIf condition size dst src offset) v = absurd v
load_is shape (Call kind imm) v = absurd v
load_is shape Exit v = absurd v
load_is shape (Load width dst src offset) v = record { slots = refl; falls_on = refl; no_jump = refl; no_byte = λ k h. h; no_call = ((λ e. cc), (λ e. cc)) }
load_is shape (LoadSigned width dst src offset) v = record {
  slots = refl;
  falls_on = refl;
  no_jump = refl;
  no_byte =
      λ k h. h;
  no_call = ((λ e. cc), (λ e. cc));
}
load_is shape (Store width dst offset src) v = absurd v

module _ (program : List Insn) (shapes : List MapShape) (start : ℕ) (l : IsGuardedLookup program shapes start) where
  value_load : IsLoad l.lookup.load
  value_load = load_is l.lookup.shape l.lookup.load l.fitting.in_value

  at_start : insn_at program start ≡ Some (part_insn l.lookup FrameCopy)
  at_start = let e : start ≡ start + part_slot FrameCopy = omega arith in ap (insn_at program) e ∙ l.parts FrameCopy

  pub behind : (p : LookupPart) → part_slot p + slot_count (part_insn l.lookup p) ≡ step_slot p
  behind FrameCopy = refl
  behind KeyAddress = refl
  behind MapLoad = refl
  behind LookupCall = refl
  behind NullTest = refl
  behind ValueLoad = ap (λ n. 6 + n) value_load.slots

  pub part_no_byte : (p : LookupPart) (k : ℕ) → WritesByte (part_insn l.lookup p) k → ⊥
  part_no_byte FrameCopy k h = h
  part_no_byte KeyAddress k h = h
  part_no_byte MapLoad k h = h
  part_no_byte LookupCall k h = h
  part_no_byte NullTest k h = h
  part_no_byte ValueLoad k h = value_load.no_byte k h

  pub part_keeps : (p : LookupPart) → KeepsSection (part_insn l.lookup p)
  part_keeps FrameCopy = ((λ e. cc), (λ e. cc))
  part_keeps KeyAddress = ((λ e. cc), (λ e. cc))
  part_keeps MapLoad = ((λ e. cc), (λ e. cc))
  part_keeps LookupCall = ((λ e. cc), (λ e. cc))
  part_keeps NullTest = ((λ e. cc), (λ e. cc))
  part_keeps ValueLoad = value_load.no_call

  -- the instruction in the middle of the wide one isn't one
  not_within : (i : Insn) → insn_at program (start + 3) ≡ Some i → ⊥
  not_within i h =
      let a = index_here program (start + 2) (part_insn l.lookup MapLoad) (l.parts MapLoad) in
      let b = index_here program (start + 3) i h in
      let further : a.0 < b.0 = starts_ordered 0 program a.0 b.0 (start + 2) (start + 3) a.2 b.2 (omega arith) in
      let next : StartsAt program (suc a.0) (start + 2 + 2) =
      starts-next 0 program a.0 (start + 2) (part_insn l.lookup MapLoad) a.1 a.2
      (omega (arith, start-inside program b.0 (start + 3) b.2, further)) in
      elim (cases_eq b.0 (suc a.0)) [
        | inl e ↦ (let same : start + 3 ≡ start + 2 + 2 =
            same_Some _ _ (sym b.2 ∙ ap (slice_get (starts_from 0 program)) e ∙ next) in absurd (omega (arith, same)))
        | inr n ↦ (let more : start + 2 + 2 < start + 3 =
            starts_increase 0 program (suc a.0) b.0 (start + 2 + 2) (start + 3) next b.2
            (omega (arith, further, n)) in absurd (omega (arith, more)))
      ]

  -- what stands at its slots is its parts
  pub part_of_slot : (slot : ℕ) (i : Insn) → insn_at program slot ≡ Some i → start ≤ slot → slot ≤ start + 6 →
      (p : LookupPart) × (slot ≡ start + part_slot p) × (i ≡ part_insn l.lookup p)
  part_of_slot slot i h low high = elim (cases_eq slot start) [
    | inl e ↦ (FrameCopy, (let g : slot ≡ start + 0 = omega (arith, e) in g), same_Some _ _ (sym h ∙ ap (insn_at program) e ∙ at_start))
    | inr n0 ↦ elim (cases_eq slot (start + 1)) [
      | inl e ↦ (KeyAddress, e, same_Some _ _ (sym h ∙ ap (insn_at program) e ∙ l.parts KeyAddress))
      | inr n1 ↦ elim (cases_eq slot (start + 2)) [
        | inl e ↦ (MapLoad, e, same_Some _ _ (sym h ∙ ap (insn_at program) e ∙ l.parts MapLoad))
        | inr n2 ↦ elim (cases_eq slot (start + 3)) [
          | inl e ↦ absurd (not_within i (sym (ap (insn_at program) e) ∙ h))
          | inr n3 ↦ elim (cases_eq slot (start + 4)) [
            | inl e ↦ (LookupCall, e, same_Some _ _ (sym h ∙ ap (insn_at program) e ∙ l.parts LookupCall))
            | inr n4 ↦ elim (cases_eq slot (start + 5)) [
              | inl e ↦ (NullTest, e, same_Some _ _ (sym h ∙ ap (insn_at program) e ∙ l.parts NullTest))
              | inr n5 ↦ (let e : slot ≡ start + 6 = omega
                  (arith, low, high, n0, n1, n2, n3, n4, n5) in (
                    ValueLoad,
                    e,
                    same_Some _ _ (sym h ∙ ap (insn_at program) e ∙ l.parts ValueLoad),
                  ))
            ]
          ]
        ]
      ]
    ]
  ]

  -- control falls into its middle from its own instructions alone
  pub falls_from : (k s t : ℕ) → StartsAt program k s → StartsAt program (suc k) t → start < t → start ≤ s
  falls_from k s t a b h =
      let j = index_here program start _ at_start in
      let before : j.0 < suc k = starts_ordered 0 program j.0 (suc k) start t j.2 b h in
      elim (cases_eq j.0 k) [
        | inl e ↦ (let same : start ≡ s = same_Some _ _ (sym j.2 ∙ ap (slice_get (starts_from 0 program)) e ∙ a) in omega (arith, same))
        | inr n ↦ (let less = starts_increase 0 program j.0 k start s j.2 a (omega (arith, before, n)) in omega (arith, less))
      ]

  pub slot_inside : (p : LookupPart) → start + part_slot p ≤ start + 6
  slot_inside FrameCopy = omega arith
  slot_inside KeyAddress = omega arith
  slot_inside MapLoad = omega arith
  slot_inside LookupCall = omega arith
  slot_inside NullTest = omega arith
  slot_inside ValueLoad = omega arith

  pub part_at : (p : LookupPart) → IsLookupPart program shapes (start + part_slot p)
  part_at p = (start, l, omega arith, slot_inside p)

  -- what a part prepares is what the one behind it expects
  pub pass_on : (g : GuardedLookup) (b : AbsState) (q p : LookupPart) → (p ≡ FrameCopy → ⊥) → part_slot p ≡ step_slot q → Prepares g q b → Expects g p b
  pass_on g b FrameCopy FrameCopy n e x = absurd (n refl)
  pass_on g b FrameCopy KeyAddress n e x = x
  pass_on g b FrameCopy MapLoad n e x = absurd (omega (arith, e))
  pass_on g b FrameCopy LookupCall n e x = absurd (omega (arith, e))
  pass_on g b FrameCopy NullTest n e x = absurd (omega (arith, e))
  pass_on g b FrameCopy ValueLoad n e x = absurd (omega (arith, e))
  pass_on g b KeyAddress FrameCopy n e x = absurd (n refl)
  pass_on g b KeyAddress KeyAddress n e x = absurd (omega (arith, e))
  pass_on g b KeyAddress MapLoad n e x = x
  pass_on g b KeyAddress LookupCall n e x = absurd (omega (arith, e))
  pass_on g b KeyAddress NullTest n e x = absurd (omega (arith, e))
  pass_on g b KeyAddress ValueLoad n e x = absurd (omega (arith, e))
  pass_on g b MapLoad FrameCopy n e x = absurd (n refl)
  pass_on g b MapLoad KeyAddress n e x = absurd (omega (arith, e))
  pass_on g b MapLoad MapLoad n e x = absurd (omega (arith, e))
  pass_on g b MapLoad LookupCall n e x = x
  pass_on g b MapLoad NullTest n e x = absurd (omega (arith, e))
  pass_on g b MapLoad ValueLoad n e x = absurd (omega (arith, e))
  pass_on g b LookupCall FrameCopy n e x = absurd (n refl)
  pass_on g b LookupCall KeyAddress n e x = absurd (omega (arith, e))
  pass_on g b LookupCall MapLoad n e x = absurd (omega (arith, e))
  pass_on g b LookupCall LookupCall n e x = absurd (omega (arith, e))
  pass_on g b LookupCall NullTest n e x = x
  pass_on g b LookupCall ValueLoad n e x = absurd (omega (arith, e))
  pass_on g b NullTest FrameCopy n e x = absurd (n refl)
  pass_on g b NullTest KeyAddress n e x = absurd (omega (arith, e))
  pass_on g b NullTest MapLoad n e x = absurd (omega (arith, e))
  pass_on g b NullTest LookupCall n e x = absurd (omega (arith, e))
  pass_on g b NullTest NullTest n e x = absurd (omega (arith, e))
  pass_on g b NullTest ValueLoad n e x = x
  pass_on g b ValueLoad FrameCopy n e x = absurd (n refl)
  pass_on g b ValueLoad KeyAddress n e x = absurd (omega (arith, e))
  pass_on g b ValueLoad MapLoad n e x = absurd (omega (arith, e))
  pass_on g b ValueLoad LookupCall n e x = absurd (omega (arith, e))
  pass_on g b ValueLoad NullTest n e x = absurd (omega (arith, e))
  pass_on g b ValueLoad ValueLoad n e x = absurd (omega (arith, e))

  pub slot_behind : (p : LookupPart) → (p ≡ FrameCopy → ⊥) → start < start + part_slot p
  slot_behind FrameCopy n = absurd (n refl)
  slot_behind KeyAddress n = omega arith
  slot_behind MapLoad n = omega arith
  slot_behind LookupCall n = omega arith
  slot_behind NullTest n = omega arith
  slot_behind ValueLoad n = omega arith

  -- behind the call r0 to r5 hold no number
  module _ (reached : (slot : ℕ) (i : Insn) → insn_at program slot ≡ Some i → Reached program slot) (r : ℕ) (low : r ≤ 5) where
    lacks_5 : LacksRegister program shapes r (start + 5)
    lacks_5 = lacks_call (start + 4) (start + 5) lookup_call (reached (start + 4) lookup_call (l.parts LookupCall))
        (l.parts LookupCall) (inr (inr refl)) low (inl (refl, (let g : start + 5 ≡ start + 4 + 1 = omega arith in g)))

    lacks_6 : LacksRegister program shapes r (start + 6)
    lacks_6 = lacks_next (start + 5) (start + 6) _ lacks_5 (l.parts NullTest) (λ w. absurd w)
        (inl (refl, (let g : start + 6 ≡ start + 5 + 1 = omega arith in g)))

    jumps_not : (p : LookupPart) (t : ℕ) → distance (part_insn l.lookup p) ≡ None → JumpsTo (part_insn l.lookup p) (start + part_slot p) t → ⊥
    jumps_not p t none j = none-some j.0 (sym none ∙ j.1)

    inner : (p : LookupPart) (t : ℕ) → t ≡ start + part_slot p + slot_count (part_insn l.lookup p) → 0 < step_slot p →
        step_slot p ≤ 6 → IsInner program shapes t
    inner p t e low high =
        let b = behind p in record {
          start = start;
          lookup = l;
          behind = omega (arith, e, b, low);
          inside = omega (arith, e, b, high);
        }

    -- nothing is said of them inside, and behind the lookup they lack a number
    pub part_low : (p : LookupPart) (t : ℕ) → GoesTo (part_insn l.lookup p) (start + part_slot p) t →
        LacksRegister program shapes r t ⊎ ((r ≤ 5) × IsInner program shapes t)
    part_low FrameCopy t (inl f) = inr (low, inner FrameCopy t f.1 (omega arith) (omega arith))
    part_low FrameCopy t (inr j) = absurd (jumps_not FrameCopy t refl j)
    part_low KeyAddress t (inl f) = inr (low, inner KeyAddress t f.1 (omega arith) (omega arith))
    part_low KeyAddress t (inr j) = absurd (jumps_not KeyAddress t refl j)
    part_low MapLoad t (inl f) = inr (low, inner MapLoad t f.1 (omega arith) (omega arith))
    part_low MapLoad t (inr j) = absurd (jumps_not MapLoad t refl j)
    part_low LookupCall t (inl f) = inr (low, inner LookupCall t f.1 (omega arith) (omega arith))
    part_low LookupCall t (inr j) = absurd (jumps_not LookupCall t refl j)
    part_low NullTest t g = inl (lacks_next (start + 5) t _ lacks_5 (l.parts NullTest) (λ w. part_at NullTest) g)
    part_low ValueLoad t g = inl (lacks_next (start + 6) t _ lacks_6 (l.parts ValueLoad) (λ w. part_at ValueLoad) g)

-- a call of the lookup or not
helper_call : (imm : ℤ) → (Call Helper imm ≡ lookup_call) ⊎ (Call Helper imm ≡ lookup_call → ⊥)
helper_call (pos n) = elim (cases_eq n 1) [
  | inl e ↦ inl (ap (λ n. Call Helper (pos n)) e)
  | inr m ↦ inr (λ e. m (let f : n ≡ 1 = cc in f))
]
helper_call (negsuc n) = inr (λ e. cc)

lookup_or_not : (i : Insn) → (i ≡ lookup_call) ⊎ (i ≡ lookup_call → ⊥)
lookup_or_not (Alu op size dst src) = inr (λ e. cc)
lookup_or_not (Unary op dst) = inr (λ e. cc)
lookup_or_not (LoadNumber dst n) = inr (λ e. cc)
lookup_or_not (LoadMap dst map) = inr (λ e. cc)
lookup_or_not (Jump offset) = inr (λ e. cc)
lookup_or_not (JumpLong imm) = inr (λ e. cc)
lookup_or_not (JumpIf condition size dst src offset) = inr (λ e. cc)
lookup_or_not (Call Helper imm) = helper_call imm
lookup_or_not (Call Kernel imm) = inr (λ e. cc)
lookup_or_not Exit = inr (λ e. cc)
lookup_or_not (Load width dst src offset) = inr (λ e. cc)
lookup_or_not (LoadSigned width dst src offset) = inr (λ e. cc)
lookup_or_not (Store width dst offset src) = inr (λ e. cc)

-- whether a slot belongs to a guarded lookup can be decided
module _ (program : List Insn) (shapes : List MapShape) (plain : IsPlainWithMaps program shapes) where
  call_part : (l : GuardedLookup) (p : LookupPart) (shape : MapShape) → IsValueLoad shape l.load → lookup_call ≡ part_insn l p → p ≡ LookupCall
  call_part l FrameCopy shape v e = absurd cc
  call_part l KeyAddress shape v e = absurd cc
  call_part l MapLoad shape v e = absurd cc
  call_part l LookupCall shape v e = refl
  call_part l NullTest shape v e = absurd cc
  call_part l ValueLoad shape v e = absurd (subst (IsValueLoad shape) (sym e) v)

  by_call : (start : ℕ) → insn_at program (start + 4) ≡ Some lookup_call → HasForm program shapes (start + 4) lookup_call → IsGuardedLookup program shapes start
  by_call start h (inl part) =
      let q = part_of_slot program shapes part.0 part.1 (start + 4) lookup_call h part.2 part.3 in
      let c = call_part part.1.lookup q.0 part.1.lookup.shape part.1.fitting.in_value q.2 in
      let e : start + 4 ≡ part.0 + 4 = subst (λ p. start + 4 ≡ part.0 + part_slot p) c q.1 in
      let same : part.0 ≡ start = omega (arith, e) in
      subst (IsGuardedLookup program shapes) same part.1
  by_call start h (inr (inl e)) = absurd cc
  by_call start h (inr (inr (inl e))) = absurd cc
  by_call start h (inr (inr (inr simple))) = absurd simple

  guarded_or_not : (start : ℕ) → IsGuardedLookup program shapes start ⊎ (IsGuardedLookup program shapes start → ⊥)
  guarded_or_not start = by (insn_at program (start + 4)) refl
    where
      by : (o : Option Insn) → insn_at program (start + 4) ≡ o → IsGuardedLookup program shapes start ⊎ (IsGuardedLookup program shapes start → ⊥)
      by None e = inr (λ l. none-some lookup_call (sym e ∙ l.parts LookupCall))
      by (Some i) e = elim (lookup_or_not i) [
        | inl f ↦ (let h : insn_at program (start + 4) ≡ Some lookup_call = e ∙ ap Some f in inl (by_call start h (plain.forms (start + 4) lookup_call h)))
        | inr n ↦ inr (λ l. n (same_Some _ _ (sym e ∙ l.parts LookupCall)))
      ]

  within_or_not : (n slot : ℕ) → ((start : ℕ) × IsGuardedLookup program shapes start × (start ≤ slot) × (slot ≤ start + n))
      ⊎ ((start : ℕ) → IsGuardedLookup program shapes start → start ≤ slot → slot ≤ start + n → ⊥)
  within_or_not zero slot = elim (guarded_or_not slot) [
    | inl l ↦ inl (slot, l, omega arith, omega arith)
    | inr none ↦ inr (λ s l p q. (let e : s ≡ slot = omega (arith, p, q) in none (subst (IsGuardedLookup program shapes) e l)))
  ]
  within_or_not (suc n) slot = elim (within_or_not n slot) [
    | inl w ↦ inl (w.0, w.1, w.2, omega (arith, w.3))
    | inr none ↦ elim (cases_lt slot (suc n)) [
      | inl h ↦ inr (λ s l p q. none s l p (omega (arith, h)))
      | inr h ↦ elim (guarded_or_not (slot - suc n)) [
        | inl l ↦ inl (slot - suc n, l, omega arith, omega (arith, h))
        | inr not_here ↦ inr (λ s l p q. elim (cases_lt (s + n) slot) [
          | inl far ↦ (let e : s ≡ slot - suc n = omega (arith, far, q, h) in not_here (subst (IsGuardedLookup program shapes) e l))
          | inr near ↦ none s l p near
        ])
      ]
    ]
  ]

  pub part_or_not : (slot : ℕ) → IsLookupPart program shapes slot ⊎ (IsLookupPart program shapes slot → ⊥)
  part_or_not slot = elim (within_or_not 6 slot) [ inl w ↦ inl w | inr none ↦ inr (λ p. none p.0 p.1 p.2 p.3) ]
