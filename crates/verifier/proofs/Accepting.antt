-- A plain program meets no refusal but for want of memory.
use Rattle.bpf_model.proofs.Prelude.{◌≡◌, ◌≢◌, ℕ, zero, suc, ◌+◌, ◌<◌, ◌≤◌, refl, sym, ◌∙◌, ap, subst, arith, inl, inr, true, false, Bool, List, length}
use Rattle.bpf_model.proofs.Prelude.{slice_get, Option, Some, None, ◌⊎◌, unwrap_or, IfSome, option_map, ℤ, pos, ◌+ℤ◌, ◌^◌, min, max}
use Rattle.bpf_model.proofs.Prelude.{if◌then◌else◌, cases_lt, cases_eq, none-some, same_Some, byte_count, region_offset, distance, JumpsTo, GoesTo}
use Rattle.bpf_model.proofs.Prelude.{slot_count, insn_at, start_of-insn, starts_increase, start-insn, LeadsTo, StartsAt, get-below}
use Rattle.effects.proofs.Prelude.{AbsState, InsnFault}
use Rattle.model_laws.proofs.Prelude.{Insn, Alu, Unary, LoadNumber, LoadMap, Jump, JumpLong, JumpIf, Call, Exit, Load, LoadSigned, Store, MapShape}
use Rattle.model_laws.proofs.Prelude.{FRAME_BYTES, Width, IsSimple, WritesRegister, WritesByte, TakesByte, WithoutByte, without_entry, without_next}
use Rattle.model_laws.proofs.Prelude.{lookup_call, lock_call, unlock_call, IsGuardedLookup, IsLookupPart, HasForm, InSection, section_entry, section_lock}
use Rattle.model_laws.proofs.Prelude.{section_unlock, section_next, LacksRegister, lacks_entry, lacks_call, lacks_next, IsPlainWithMaps, GuardedLookup}
use Rattle.model_laws.proofs.Prelude.{LookupPart, FrameCopy, KeyAddress, MapLoad, LookupCall, NullTest, ValueLoad, part_insn, part_slot}
use Rattle.register_kinds.proofs.Prelude.{state_of, IsJoinedKind}
use Rattle.verifier.proofs.Prelude.{Follows, HasTargets, IsTarget, IsInner, AreKnown, Awaited, state_in, AreSame, JoinsTo, Merged, Leads, Fell, Jumped}
use Rattle.verifier.proofs.Prelude.{Advances, StartsFrom, refusal_of}
use Rattle.verifier.proofs.Marking.{edge_from, first_start, target_within}
use Rattle.plan_laws.specs.Kinds as model
use Rattle.register_kinds.specs.Joined.{IsJoinedCell, AreJoined}
use Rattle.register_kinds.specs.declared.fault.InsnFault.TheVariants as faults
use Rattle.effects.specs.declared.region.Region.{Region}
use Rattle.state_steps.specs.Facts.{Fact, Register, FrameByte, FramePointer, Section, FactHolds, depth_of, Makes, IsReadyInsn, KeepsFacts}
use Rattle.state_steps.specs.Lookups.{IsKeyWritten, Expects, KeepsSaved, IsReadyPart, LeavesPart, IsReadySection, LeavesSection, IsReadyWithMaps}
use Rattle.state_steps.specs.Lookups.{section_call}
use Rattle.verifier.specs.declared.refusal.ProgramRefusal.{ProgramRefusal}
use Rattle.verifier.specs.declared.refusal.ProgramRefusal.TheVariants.{Memory}
use Rattle.verifier.specs.declared.waiting.Waiting.{Waiting}
use Rattle.verifier.specs.declared.waiting.Waiting.TheVariants.{Nothing, Known, Differing}
use Rattle.verifier.specs.FactsKnown.{Knows, WithoutFact, IsExpected, IsKnown, CanAccept}
use Rattle.verifier.specs.SecondPass.{IsConflict}
use Rattle.verifier.proofs.Lookups.{part_or_not, part_of_slot, part_no_byte, part_keeps, behind, falls_from, slot_inside, slot_behind, pass_on, part_low}
use Rattle.verifier.proofs.Lookups.{part_at}
use Rattle.verifier.proofs.Plans.{falls_inside}

-- what both states know the joined one knows
pub joined_facts : (a b c : model.AbsState) → AreJoined a b c → c.depth ≡ a.depth → (fact : Fact) → FactHolds fact a → FactHolds fact b → FactHolds fact c
joined_facts a b c joined inside (Register r) p q =
    let j : IsJoinedKind (model.Num p.0) (model.Num q.0) (c.regs r) =
    subst (λ x. IsJoinedKind (model.Num p.0) x (c.regs r)) q.1
    (subst (λ x. IsJoinedKind x (b.regs r) (c.regs r)) p.1 (joined.regs r)) in
    (j.0, j.1)
joined_facts a b c joined inside (FrameByte k) p q = subst (λ x. IsJoinedCell model.ByteCell x (c.cells k)) q
    (subst (λ x. IsJoinedCell x (b.cells k) (c.cells k)) p (joined.cells k))
joined_facts a b c joined inside FramePointer p q =
    let j : IsJoinedKind (model.FrameAt (pos FRAME_BYTES)) (model.FrameAt (pos FRAME_BYTES)) (c.regs 10) =
    subst (λ x. IsJoinedKind (model.FrameAt (pos FRAME_BYTES)) x (c.regs 10)) q (subst (λ x. IsJoinedKind x (b.regs 10) (c.regs 10)) p (joined.regs 10)) in
    j.0 refl
joined_facts a b c joined inside (Section s) p q = inside ∙ p

-- where two states meet, their join keeps what both expect of a guarded lookup
module _ (a b c : model.AbsState) (joined : AreJoined a b c) where
  both_kinds : (r : ℕ) (x y : model.Kind) → a.regs r ≡ x → b.regs r ≡ y → IsJoinedKind x y (c.regs r)
  both_kinds r x y p q = subst (λ z. IsJoinedKind x z (c.regs r)) q (subst (λ z. IsJoinedKind z (b.regs r) (c.regs r)) p (joined.regs r))

  both_keys : (l : GuardedLookup) → IsKeyWritten l a → IsKeyWritten l b → IsKeyWritten l c
  both_keys l p q k low high = subst (λ x. IsJoinedCell model.ByteCell x (c.cells k)) (q k low high)
      (subst (λ x. IsJoinedCell x (b.cells k) (c.cells k)) (p k low high) (joined.cells k))

  both_frame : (r : ℕ) (o : ℤ) → a.regs r ≡ model.FrameAt o → b.regs r ≡ model.FrameAt o → c.regs r ≡ model.FrameAt o
  both_frame r o p q = (both_kinds r (model.FrameAt o) (model.FrameAt o) p q).0 refl

  both_map : (r m : ℕ) → a.regs r ≡ model.MapAt m → b.regs r ≡ model.MapAt m → c.regs r ≡ model.MapAt m
  both_map r m p q = (both_kinds r (model.MapAt m) (model.MapAt m) p q).0 refl

  pub joined_expects : (l : GuardedLookup) (p : LookupPart) → Expects l p a → Expects l p b → Expects l p c
  joined_expects l FrameCopy x y = both_keys l x y
  joined_expects l KeyAddress x y = (both_keys l x.0 y.0, both_frame 2 (pos FRAME_BYTES) x.1 y.1)
  joined_expects l MapLoad x y = (both_keys l x.0 y.0, both_frame 2 (pos l.at) x.1 y.1)
  joined_expects l LookupCall x y = (both_keys l x.0 y.0, both_frame 2 (pos l.at) x.1 y.1, both_map 1 l.map x.2 y.2)
  joined_expects l NullTest x y = (both_kinds 0 (model.MaybeNull l.map x.0) (model.MaybeNull l.map y.0) x.1 y.1).0 refl
  joined_expects l ValueLoad x y =
      let j = (both_kinds 0 (model.ValueAt l.map x.0) (model.ValueAt l.map y.0) x.1 y.1).0 refl in (
        j.0,
        j.1,
        record {
          least = j.2.least ∙ ap (λ n. min n y.0.least) x.2.least ∙ ap (λ n. min (2 ^ 29) n) y.2.least;
          greatest = j.2.greatest ∙ ap (λ n. max n y.0.greatest) x.2.greatest ∙ ap (λ n. max (2 ^ 29) n) y.2.greatest;
        },
      )

-- whether a register is written can be decided
writes_or_not : (i : Insn) (r : ℕ) → WritesRegister i r ⊎ (WritesRegister i r → ⊥)
writes_or_not (Alu op size dst src) r = cases_eq r dst
writes_or_not (Unary op dst) r = cases_eq r dst
writes_or_not (LoadNumber dst n) r = cases_eq r dst
writes_or_not (LoadMap dst map) r = inr (λ h. h)
writes_or_not (Jump offset) r = inr (λ h. h)
writes_or_not (JumpLong imm) r = inr (λ h. h)
writes_or_not (JumpIf condition size dst src offset) r = inr (λ h. h)
writes_or_not (Call kind imm) r = inr (λ h. h)
writes_or_not Exit r = inr (λ h. h)
writes_or_not (Load width dst src offset) r = cases_eq r dst
writes_or_not (LoadSigned width dst src offset) r = cases_eq r dst
writes_or_not (Store width dst offset src) r = inr (λ h. h)

-- an access takes a byte of the frame or doesn't
takes_or_not : (width : Width) (offset : ℤ) (k : ℕ) → TakesByte width offset k ⊎ (TakesByte width offset k → ⊥)
takes_or_not width offset k = at (region_offset FRAME_BYTES (byte_count width) (pos FRAME_BYTES +ℤ offset)) refl
  where
    at : (o : Option ℕ) → region_offset FRAME_BYTES (byte_count width) (pos FRAME_BYTES +ℤ offset) ≡ o →
        TakesByte width offset k ⊎ (TakesByte width offset k → ⊥)
    at None e = inr (λ t. let f : None ≡ Some t.0 = sym e ∙ t.1 in cc)
    at (Some p) e = elim (cases_lt k p) [
      | inl h ↦ inr (λ t. let same : p ≡ t.0 = same_Some _ _ (sym e ∙ t.1) in let l : t.0 ≤ k = t.2 in omega arith)
      | inr h ↦ elim (cases_lt k (p + byte_count width)) [
        | inl l ↦ inl (p, e, h, l)
        | inr l ↦ inr (λ t. let same : p ≡ t.0 = same_Some _ _ (sym e ∙ t.1) in let m : k < t.0 + byte_count width = t.3 in omega arith)
      ]
    ]

writes_byte_or_not : (i : Insn) (k : ℕ) → WritesByte i k ⊎ (WritesByte i k → ⊥)
writes_byte_or_not (Alu op size dst src) k = inr (λ h. h)
writes_byte_or_not (Unary op dst) k = inr (λ h. h)
writes_byte_or_not (LoadNumber dst n) k = inr (λ h. h)
writes_byte_or_not (LoadMap dst map) k = inr (λ h. h)
writes_byte_or_not (Jump offset) k = inr (λ h. h)
writes_byte_or_not (JumpLong imm) k = inr (λ h. h)
writes_byte_or_not (JumpIf condition size dst src offset) k = inr (λ h. h)
writes_byte_or_not (Call kind imm) k = inr (λ h. h)
writes_byte_or_not Exit k = inr (λ h. h)
writes_byte_or_not (Load width dst src offset) k = inr (λ h. h)
writes_byte_or_not (LoadSigned width dst src offset) k = inr (λ h. h)
writes_byte_or_not (Store width dst offset src) k = takes_or_not width offset k

makes_or_not : (i : Insn) (fact : Fact) → Makes i fact ⊎ (Makes i fact → ⊥)
makes_or_not i (Register r) = writes_or_not i r
makes_or_not i (FrameByte k) = writes_byte_or_not i k
makes_or_not i FramePointer = inr (λ h. h)
makes_or_not i (Section inside) = inr (λ h. h)

section_no_jump : (opens : Bool) (d : ℤ) → distance (section_call opens) ≡ Some d → ⊥
section_no_jump true d e = none-some d e
section_no_jump false d e = none-some d e

section_no_write : (opens : Bool) (r : ℕ) → WritesRegister (section_call opens) r → ⊥
section_no_write true r w = w
section_no_write false r w = w

section_no_byte : (opens : Bool) (k : ℕ) → WritesByte (section_call opens) k → ⊥
section_no_byte true k w = w
section_no_byte false k w = w

section_which : (opens : Bool) (i : Insn) → i ≡ section_call opens → (i ≡ lock_call) ⊎ ((i ≡ unlock_call) ⊎ (i ≡ lookup_call))
section_which true i e = inl e
section_which false i e = inr (inl e)

-- what stands at a slot, where what is part of a guarded lookup is nothing else
abbrev pub Stands : List Insn → List MapShape → ℕ → Insn → Type 0
Stands program shapes slot i = IsLookupPart program shapes slot
    ⊎ ((IsLookupPart program shapes slot → ⊥) × (((opens : Bool) × (i ≡ section_call opens)) ⊎ IsSimple i))

stands : (program : List Insn) (shapes : List MapShape) → IsPlainWithMaps program shapes → (slot : ℕ) (i : Insn) →
    insn_at program slot ≡ Some i → Stands program shapes slot i
stands program shapes plain slot i h = elim (part_or_not program shapes plain slot) [
  | inl part ↦ inl part
  | inr away ↦ inr (away, by away (plain.forms slot i h))
]
  where
    by : (IsLookupPart program shapes slot → ⊥) → HasForm program shapes slot i → ((opens : Bool) × (i ≡ section_call opens)) ⊎ IsSimple i
    by away (inl part) = absurd (away part)
    by away (inr (inl e)) = inl (true, e)
    by away (inr (inr (inl e))) = inl (false, e)
    by away (inr (inr (inr simple))) = inr simple

-- a state of a plain program is as deep as some path is: outside, or in a section that does not nest
section_here : (program : List Insn) (shapes : List MapShape) → IsPlainWithMaps program shapes →
    (k s : ℕ) (a : AbsState) → StartsAt program k s → Knows program shapes k a → (b : Bool) × (a.depth ≡ depth_of b) ×
    InSection program b s
section_here program shapes plain k s a there knows = elim (knows (Section false)) [
  | inl outside ↦ elim (knows (Section true)) [
    | inl deep ↦ absurd (let o : a.depth ≡ 0 = outside in let d : a.depth ≡ 1 = deep in omega (arith, o, d))
    | inr w ↦ (false, outside, w s there)
  ]
  | inr w ↦ elim (knows (Section true)) [
    | inl deep ↦ (true, deep, w s there)
    | inr u ↦ absurd (plain.settled s (w s there) (u s there))
  ]
]

-- all paths to a slot of a plain program agree in it
one_section : (program : List Insn) (shapes : List MapShape) → IsPlainWithMaps program shapes → (s : ℕ) (x y : Bool) →
    InSection program x s → InSection program y s → x ≡ y
one_section program shapes plain s true true p q = refl
one_section program shapes plain s false false p q = refl
one_section program shapes plain s true false p q = absurd (plain.settled s p q)
one_section program shapes plain s false true p q = absurd (plain.settled s q p)

-- What is known before an instruction is known, by what it keeps, before those that follow.
module _ (program : List Insn) (shapes : List MapShape) (plain : IsPlainWithMaps program shapes) (k m s : ℕ) (i : Insn) (a b : AbsState)
    (there : StartsAt program k s) (here : insn_at program s ≡ Some i)
    (goes : (t : ℕ) → StartsAt program m t → GoesTo i s t) (knows : Knows program shapes k a) where
  simple_keeps : IsSimple i → (i ≡ lock_call → ⊥) × (i ≡ unlock_call → ⊥)
  simple_keeps simple = ((λ e. subst IsSimple e simple), (λ e. subst IsSimple e simple))

  -- over an ordinary instruction
  ordinary_on : (IsLookupPart program shapes s → ⊥) → IsSimple i → (fact : Fact) → (Makes i fact → ⊥) → (t : ℕ) →
      GoesTo i s t → WithoutFact program shapes fact s → WithoutFact program shapes fact t
  ordinary_on away simple (Register r) n t g (inl w) = inl (lacks_next s t i w here (λ x. absurd (n x)) g)
  ordinary_on away simple (Register r) n t g (inr w) = absurd (away (w.1.start, w.1.lookup, omega (arith, w.1.behind), w.1.inside))
  ordinary_on away simple (FrameByte j) n t g w = without_next s t i w here n g
  ordinary_on away simple FramePointer n t g w = w
  ordinary_on away simple (Section inside) n t g w = section_next (if inside then false else true) s t i w here (simple_keeps simple) g

  pub ordinary_facts : (IsLookupPart program shapes s → ⊥) → IsSimple i → KeepsFacts i (state_of a) (state_of b) → Knows program shapes m b
  ordinary_facts away simple keeps fact = elim (makes_or_not i fact) [
    | inl makes ↦ inl (keeps fact (inr makes))
    | inr not_made ↦ elim (knows fact) [
      | inl holds ↦ inl (keeps fact (inl holds))
      | inr without ↦ inr (λ t at. ordinary_on away simple fact not_made t (goes t at) (without s there))
    ]
  ]

  -- over a part of a guarded lookup
  module _ (start : ℕ) (l : IsGuardedLookup program shapes start) (q : LookupPart) (at_part : s ≡ start + part_slot q) (is : i ≡ part_insn l.lookup q) where
    part_here : IsLookupPart program shapes s
    part_here = subst (IsLookupPart program shapes) (sym at_part) (part_at program shapes start l q)

    low_on : (r t : ℕ) → r ≤ 5 → GoesTo i s t → LacksRegister program shapes r t ⊎ ((r ≤ 5) × IsInner program shapes t)
    low_on r t low g = part_low program shapes start l plain.graph.reached r low q t
        (subst (λ n. GoesTo (part_insn l.lookup q) n t) at_part (subst (λ i. GoesTo i s t) is g))

    no_byte : (j : ℕ) → WritesByte i j → ⊥
    no_byte j w = part_no_byte program shapes start l q j (subst (λ i. WritesByte i j) is w)

    keeps_section : (i ≡ lock_call → ⊥) × (i ≡ unlock_call → ⊥)
    keeps_section = let p = part_keeps program shapes start l q in ((λ e. p.0 (sym is ∙ e)), (λ e. p.1 (sym is ∙ e)))

    pub part_facts : KeepsSaved (state_of a) (state_of b) → b.depth ≡ a.depth → Knows program shapes m b
    part_facts keeps inside (Register r) = elim (cases_lt 5 r) [
      | inl high ↦ elim (knows (Register r)) [
        | inl holds ↦ inl (keeps (Register r) high holds)
        | inr without ↦ inr (λ t at. elim (without s there) [
          | inl w ↦ inl (lacks_next s t i w here (λ x. part_here) (goes t at))
          | inr w ↦ absurd (omega (arith, high, w.0))
        ])
      ]
      | inr low ↦ inr (λ t at. low_on r t (omega (arith, low)) (goes t at))
    ]
    part_facts keeps inside (FrameByte j) = elim (knows (FrameByte j)) [
      | inl holds ↦ inl (keeps (FrameByte j) tt holds)
      | inr without ↦ inr (λ t at. without_next s t i (without s there) here (no_byte j) (goes t at))
    ]
    part_facts keeps inside FramePointer = elim (knows FramePointer) [
      | inl holds ↦ inl (keeps FramePointer tt holds)
      | inr without ↦ absurd (without s there)
    ]
    part_facts keeps inside (Section v) = elim (knows (Section v)) [
      | inl holds ↦ inl (inside ∙ holds)
      | inr without ↦ inr (λ t at. section_next (if v then false else true) s t i (without s there) here keeps_section (goes t at))
    ]

  -- over a call that begins or ends a section
  module _ (away : IsLookupPart program shapes s → ⊥) (opens : Bool) (is : i ≡ section_call opens) where
    section_to : (t : ℕ) (now : Bool) → GoesTo i s t → now ≡ opens → InSection program now t
    section_to t now g e = by opens is e
      where
        before : (b : Bool) × (a.depth ≡ depth_of b) × InSection program b s
        before = section_here program shapes plain k s a there knows

        by : (o : Bool) → i ≡ section_call o → now ≡ o → InSection program now t
        by true f e = subst (λ v. InSection program v t) (sym e) (section_lock before.0 s t before.2 (here ∙ ap Some f) (subst (λ i. GoesTo i s t) f g))
        by false f e = subst (λ v. InSection program v t) (sym e) (section_unlock before.0 s t before.2 (here ∙ ap Some f) (subst (λ i. GoesTo i s t) f g))

    pub section_facts : LeavesSection opens (state_of a) (state_of b) → Knows program shapes m b
    section_facts left (Register r) = elim (cases_lt 5 r) [
      | inl high ↦ elim (knows (Register r)) [
        | inl holds ↦ inl (left.0 (Register r) high holds)
        | inr without ↦ inr (λ t at. elim (without s there) [
          | inl w ↦ inl (lacks_next s t i w here (λ x. absurd (section_no_write opens r (subst (λ i. WritesRegister i r) is x))) (goes t at))
          | inr w ↦ absurd (omega (arith, high, w.0))
        ])
      ]
      | inr low ↦ inr (λ t at. inl (lacks_call s t i (plain.graph.reached s i here) here (section_which opens i is) (omega (arith, low)) (goes t at)))
    ]
    section_facts left (FrameByte j) = elim (knows (FrameByte j)) [
      | inl holds ↦ inl (left.0 (FrameByte j) tt holds)
      | inr without ↦ inr (λ t at. without_next s t i (without s there) here (λ x. section_no_byte opens j (subst (λ i. WritesByte i j) is x)) (goes t at))
    ]
    section_facts left FramePointer = elim (knows FramePointer) [
      | inl holds ↦ inl (left.0 FramePointer tt holds)
      | inr without ↦ absurd (without s there)
    ]
    section_facts left (Section v) = by v opens left.1 (λ t at e. section_to t (if v then false else true) (goes t at) e)
      where
        by : (v o : Bool) → b.depth ≡ depth_of o → ((t : ℕ) → StartsAt program m t → (if v then false else true) ≡ o →
            InSection program (if v then false else true) t)
            → (b.depth ≡ depth_of v) ⊎ ((t : ℕ) → StartsAt program m t → InSection program (if v then false else true) t)
        by true true e to = inl e
        by true false e to = inr (λ t at. to t at refl)
        by false true e to = inr (λ t at. to t at refl)
        by false false e to = inl e

-- a part of a guarded lookup is ready where this is known
part_ready : (program : List Insn) (shapes : List MapShape) → IsPlainWithMaps program shapes →
    (k s : ℕ) (i : Insn) (a : AbsState) → StartsAt program k s → IsKnown program shapes k a
    → (start : ℕ) (l : IsGuardedLookup program shapes start) (q : LookupPart) → s ≡ start + part_slot q →
    i ≡ part_insn l.lookup q → IsReadyPart shapes l.lookup q i (state_of a)
part_ready program shapes plain k s i a there known start l q at_part is = record {
  insn = is;
  fitting = l.fitting;
  frame = elim (known.facts FramePointer) [ inl h ↦ h | inr w ↦ absurd (w s there) ];
  inside = elim (known.facts (Section true)) [
    | inl h ↦ (let d : a.depth ≡ 1 = h in omega (arith, d))
    | inr w ↦
        absurd (plain.lookup_inside s (subst (IsLookupPart program shapes) (sym at_part)
        (part_at program shapes start l q)) (w s there))
  ];
  expects = by q at_part;
}
  where
    keys : s ≡ start + 0 → IsKeyWritten l.lookup (state_of a)
    keys e j low high = elim (known.facts (FrameByte j)) [
      | inl h ↦ h
      | inr w ↦ (let f : s ≡ start = omega (arith, e) in absurd (plain.keys start j l low high (subst (WithoutByte program j) f (w s there))))
    ]

    later : (q : LookupPart) → (q ≡ FrameCopy → ⊥) → s ≡ start + part_slot q → Expects l.lookup q (state_of a)
    later q n e = known.expected start l q n (there ∙ ap Some e)

    by : (q : LookupPart) → s ≡ start + part_slot q → Expects l.lookup q (state_of a)
    by FrameCopy e = keys e
    by KeyAddress e = later KeyAddress (λ f. cc) e
    by MapLoad e = later MapLoad (λ f. cc) e
    by LookupCall e = later LookupCall (λ f. cc) e
    by NullTest e = later NullTest (λ f. cc) e
    by ValueLoad e = later ValueLoad (λ f. cc) e

-- a call that begins or ends a section is ready
section_ready : (program : List Insn) (shapes : List MapShape) → IsPlainWithMaps program shapes →
    (k s : ℕ) (i : Insn) (a : AbsState) → StartsAt program k s → insn_at program s ≡ Some i → Knows program shapes k a
    → (opens : Bool) → i ≡ section_call opens → IsReadySection opens i (state_of a)
section_ready program shapes plain k s i a there here knows true e = record {
  insn = e;
  before = elim (knows (Section false)) [ inl h ↦ h | inr w ↦ absurd (plain.lock_outside s (here ∙ ap Some e) (w s there)) ];
}
section_ready program shapes plain k s i a there here knows false e = record {
  insn = e;
  before = elim (knows (Section true)) [ inl h ↦ h | inr w ↦ absurd (plain.unlock_inside s (here ∙ ap Some e) (w s there)) ];
}

-- an ordinary instruction is ready
ordinary_ready : (program : List Insn) (shapes : List MapShape) → IsPlainWithMaps program shapes →
    (k s : ℕ) (i : Insn) (a : AbsState) → StartsAt program k s → insn_at program s ≡ Some i → Knows program shapes k a
    → (IsLookupPart program shapes s → ⊥) → IsSimple i → IsReadyInsn i (state_of a)
ordinary_ready program shapes plain k s i a there here knows away simple = record {
  simple = simple;
  keeps_frame = (plain.frame_pointer s i here away).0;
  frame = elim (knows FramePointer) [ inl h ↦ h | inr w ↦ absurd (w s there) ];
  outside = λ e. elim (knows (Section false)) [ inl h ↦ h | inr w ↦ absurd (plain.exit_outside s (here ∙ ap Some e) (w s there)) ];
  registers = λ r reads. elim (knows (Register r)) [
    | inl h ↦ h
    | inr w ↦ elim (w s there) [
      | inl lacks ↦ absurd (plain.registers s i r here away reads lacks)
      | inr inner ↦ absurd (away (inner.1.start, inner.1.lookup, omega (arith, inner.1.behind), inner.1.inside))
    ]
  ];
  bytes = λ j reads. elim (knows (FrameByte j)) [ inl h ↦ h | inr w ↦ absurd (plain.bytes s i j here away reads (w s there)) ];
}

-- an instruction of a plain program is ready where this is known
pub ready_here : (program : List Insn) (shapes : List MapShape) (k : ℕ) (i : Insn) (a : AbsState) →
    IsPlainWithMaps program shapes → slice_get program k ≡ Some i → IsKnown program shapes k a →
    IsReadyInsn i (state_of a) ⊎ IsReadyWithMaps shapes i (state_of a)
ready_here program shapes k i a plain e known = by (stands program shapes plain s.0 i here)
  where
    s : (p : ℕ) × StartsAt program k p
    s = start_of-insn 0 program k i e

    here : insn_at program s.0 ≡ Some i
    here = start-insn program k s.0 i e s.1

    by : Stands program shapes s.0 i → IsReadyInsn i (state_of a) ⊎ IsReadyWithMaps shapes i (state_of a)
    by (inl part) =
        let q = part_of_slot program shapes part.0 part.1 s.0 i here part.2 part.3 in
        inr (inl (part.1.lookup, q.0, part_ready program shapes plain k s.0 i a s.1 known part.0 part.1 q.0 q.1 q.2))
    by (inr (away, inl c)) = inr (inr (c.0, section_ready program shapes plain k s.0 i a s.1 here known.facts c.0 c.1))
    by (inr (away, inr simple)) = inl (ordinary_ready program shapes plain k s.0 i a s.1 here known.facts away simple)

pub can_accept : (program : List Insn) (shapes : List MapShape) (k : ℕ) (at : Awaited) →
    IsPlainWithMaps program shapes → AreKnown program shapes k at → CanAccept program shapes k at
can_accept program shapes k at plain known = record {
  paired = known.paired k (omega arith);
  ready = λ i a e f. ready_here program shapes k i a plain e (known.knows k a (omega arith) f);
}

-- states of plain programs don't differ in their sections
no_conflict : (w : Waiting) (state : AbsState) → w ≢ Differing → ((a : AbsState) → state_in w ≡ Some a → a.depth ≡ state.depth) → IsConflict w state → ⊥
no_conflict Nothing state n same c = c
no_conflict (Known b) state n same c = c (same b.value refl)
no_conflict Differing state n same c = n refl

-- a join of states of which this is known keeps it known
merged_known : (program : List Insn) (shapes : List MapShape) → IsPlainWithMaps program shapes →
    (k at : ℕ) (state : AbsState) (old new : Awaited) → Merged at state old new → k ≤ at → at < length program →
    IsKnown program shapes at state → AreKnown program shapes k old → AreKnown program shapes k new
merged_known program shapes plain k at state old new merged ahead inside known before = record { paired = paired; knows = knows }
  where
    slot : (p : ℕ) × StartsAt program at p
    slot = let i = get-below program at inside in start_of-insn 0 program at i.0 i.1

    same : (a : AbsState) → state_in (old at) ≡ Some a → a.depth ≡ state.depth
    same a e =
        let x = section_here program shapes plain at slot.0 a slot.1 (before.knows at a ahead e).facts in
        let y = section_here program shapes plain at slot.0 state slot.1 known.facts in
        x.1 ∙ ap depth_of (one_section program shapes plain slot.0 x.0 y.0 x.2 y.2) ∙ sym y.1

    paired : (m : ℕ) → k ≤ m → new m ≢ Differing
    paired m h = elim (cases_eq m at) [
      | inl g ↦ λ d. elim merged.here [
        | inl j ↦ no_conflict (old at) state (before.paired at ahead) same j.1
        | inr j ↦ (let f : None ≡ Some j.0 = sym (ap state_in (ap new (sym g) ∙ d)) ∙ j.1 in cc)
      ]
      | inr n ↦ λ d. before.paired m h (sym (merged.others m n) ∙ d)
    ]

    facts_at : (a : AbsState) → JoinsTo (old at) state a → Knows program shapes at a
    facts_at a j fact = elim (known.facts fact) [ inl holds ↦ among (state_in (old at)) refl holds | inr without ↦ inr without ]
      where
        among : (o : Option AbsState) → state_in (old at) ≡ o → FactHolds fact (state_of state) →
            FactHolds fact (state_of a) ⊎ ((p : ℕ) → StartsAt program at p → WithoutFact program shapes fact p)
        among None g holds = inl (j.facts fact holds (λ b h. absurd (let c : Some b ≡ None = sym h ∙ g in cc)))
        among (Some b) g holds = elim ((before.knows at b ahead g).facts fact) [
          | inl q ↦ inl (j.facts fact holds (λ c h. subst (λ c. FactHolds fact (state_of c)) (same_Some _ _ (sym g ∙ h)) q))
          | inr w ↦ inr w
        ]

    expected_at : (a : AbsState) → JoinsTo (old at) state a → IsExpected program shapes at a
    expected_at a j start l p n there = j.expects l.lookup p (known.expected start l p n there) (λ b h. (before.knows at b ahead h).expected start l p n there)

    joined_knows : (a : AbsState) → state_in (new at) ≡ Some a → IsKnown program shapes at a
    joined_knows a e = elim merged.here [
      | inl j ↦ absurd (let f : None ≡ Some a = sym (ap state_in j.0) ∙ e in cc)
      | inr j ↦ subst (IsKnown program shapes at) (same_Some _ _ (sym j.1 ∙ e)) (record { facts = facts_at j.0 j.2; expected = expected_at j.0 j.2 })
    ]

    knows : (m : ℕ) (a : AbsState) → k ≤ m → state_in (new m) ≡ Some a → IsKnown program shapes m a
    knows m a h e = elim (cases_eq m at) [
      | inl g ↦ subst (λ m. IsKnown program shapes m a) (sym g) (joined_knows a (ap (λ m. state_in (new m)) (sym g) ∙ e))
      | inr n ↦ before.knows m a h (ap state_in (sym (merged.others m n)) ∙ e)
    ]

same_known : (program : List Insn) (shapes : List MapShape) (k : ℕ) (old new : Awaited) → AreSame old new →
    AreKnown program shapes k old → AreKnown program shapes k new
same_known program shapes k old new e known = record {
  paired = λ m h d. known.paired m h (sym (e m) ∙ d);
  knows = λ m a h f. known.knows m a h (ap state_in (sym (e m)) ∙ f);
}

-- what holds of an optional state
some_of : (P : model.AbsState → Type 0) (o : Option AbsState) (s : AbsState) → o ≡ Some s → IfSome (option_map state_of o) P → P (state_of s)
some_of P None s e h = absurd (none-some s e)
some_of P (Some t) s e h = subst (λ t. P (state_of t)) (same_Some _ _ e) h

some_here : (P : AbsState → Type 0) (o : Option AbsState) (s : AbsState) → o ≡ Some s → IfSome o P → P s
some_here P None s e h = absurd (none-some s e)
some_here P (Some t) s e h = subst P (same_Some _ _ e) h

module _ (program : List Insn) (targets : List (Option ℕ)) (long : length targets ≡ length program) (all : HasTargets program targets)
    (k : ℕ) (shapes : List MapShape) (ctx_len : ℕ) (region : Region) (old new : Awaited)
    (done : Advances program targets k shapes ctx_len region old new) (plain : IsPlainWithMaps program shapes)
    (known : AreKnown program shapes k old) where
  here : IsKnown program shapes k done.state
  here = known.knows k done.state (omega arith) done.waited

  s : (p : ℕ) × StartsAt program k p
  s = start_of-insn 0 program k done.insn done.insn_is

  at : insn_at program s.0 ≡ Some done.insn
  at = start-insn program k s.0 done.insn done.insn_is s.1

  goes_on : (m t : ℕ) → Follows done.insn done.target k m → StartsAt program m t → GoesTo done.insn s.0 t
  goes_on m t follows there = edge_from program targets long all k m s.0 t done.insn done.target done.insn_is done.target_is follows s.1 there

  -- what holds of both states behind the instruction holds of the one that jumps
  jumping_is : (P : AbsState → Type 0) → P done.spreads.next → ((t : AbsState) → done.spreads.taken ≡ Some t → P t) →
      (b : AbsState) → done.spreads.jumping ≡ Some b → P b
  jumping_is P next taken b f = by done.spreads.leads
    where
      of_unwrapped : (o : Option AbsState) → done.spreads.taken ≡ o → unwrap_or o done.spreads.next ≡ b → P b
      of_unwrapped None g h = subst P h next
      of_unwrapped (Some t) g h = taken b (g ∙ ap Some h)

      by : Leads done.insn done.spreads.next done.spreads.taken done.spreads.jumping → P b
      by (inl g) = taken b (sym g.1 ∙ f)
      by (inr g) = of_unwrapped done.spreads.taken refl (same_Some _ _ (sym g.1 ∙ f))

  module _ (m : ℕ) (follows : Follows done.insn done.target k m) where
    ordinary_to : (b : AbsState) → (IsLookupPart program shapes s.0 → ⊥) → IsSimple done.insn →
        KeepsFacts done.insn (state_of done.state) (state_of b) → Knows program shapes m b
    ordinary_to b away simple keeps = ordinary_facts program shapes plain k m s.0 done.insn done.state b s.1 at
        (λ t there. goes_on m t follows there) here.facts away simple keeps

    part_to : (b : AbsState) (start : ℕ) (l : IsGuardedLookup program shapes start) (q : LookupPart) →
        s.0 ≡ start + part_slot q → done.insn ≡ part_insn l.lookup q
        → KeepsSaved (state_of done.state) (state_of b) → b.depth ≡ done.state.depth → Knows program shapes m b
    part_to b start l q at_part is keeps inside = part_facts program shapes plain k m s.0 done.insn done.state b s.1
        at (λ t there. goes_on m t follows there) here.facts start l q at_part is keeps inside

    section_to_next : (b : AbsState) → (IsLookupPart program shapes s.0 → ⊥) → (opens : Bool) →
        done.insn ≡ section_call opens → LeavesSection opens (state_of done.state) (state_of b) →
        Knows program shapes m b
    section_to_next b away opens is left = section_facts program shapes plain k m s.0 done.insn done.state b s.1 at
        (λ t there. goes_on m t follows there) here.facts away opens is left

  ready_ordinary : (IsLookupPart program shapes s.0 → ⊥) → IsSimple done.insn → IsReadyInsn done.insn (state_of done.state)
  ready_ordinary away simple = ordinary_ready program shapes plain k s.0 done.insn done.state s.1 at here.facts away simple

  leaves : (start : ℕ) (l : IsGuardedLookup program shapes start) (q : LookupPart) → s.0 ≡ start + part_slot q → done.insn ≡ part_insn l.lookup q
      → LeavesPart l.lookup q (state_of done.state) (state_of done.spreads.next) (option_map state_of done.spreads.taken)
  leaves start l q at_part is = done.spreads.transfer.serves.part l.lookup q
      (part_ready program shapes plain k s.0 done.insn done.state s.1 here start l q at_part is)

  -- where control falls through
  next_facts : Follows done.insn done.target k (suc k) → Stands program shapes s.0 done.insn → Knows program shapes (suc k) done.spreads.next
  next_facts follows (inl part) =
      let q = part_of_slot program shapes part.0 part.1 s.0 done.insn at part.2 part.3 in
      let left = leaves part.0 part.1 q.0 q.1 q.2 in
      part_to (suc k) follows done.spreads.next part.0 part.1 q.0 q.1 q.2 left.keeps left.depth
  next_facts follows (inr (away, inl c)) =
      section_to_next (suc k) follows done.spreads.next away c.0 c.1
      (done.spreads.transfer.serves.section c.0 (section_ready program shapes plain k s.0 done.insn done.state s.1
      at here.facts c.0 c.1))
  next_facts follows (inr (away, inr simple)) = ordinary_to (suc k) follows done.spreads.next away simple
      (done.spreads.transfer.keeps (ready_ordinary away simple))

  next_expected : Follows done.insn done.target k (suc k) → IsExpected program shapes (suc k) done.spreads.next
  next_expected follows start l p n there =
      let low = falls_from program shapes start l k s.0 (start + part_slot p) s.1 there (slot_behind program shapes start l p n) in
      let before : s.0 < start + part_slot p = starts_increase 0 program k (suc k) s.0 (start + part_slot p) s.1 there (omega arith) in
      let q = part_of_slot program shapes start l s.0 done.insn at low (omega (arith, before, slot_inside program shapes start l p)) in
      let behind_is = behind program shapes start l q.0 in
      let goes = goes_on (suc k) (start + part_slot p) follows there in
      let next : start + part_slot p ≡ s.0 + slot_count (part_insn l.lookup q.0) = elim goes [
        | inl f ↦ f.1 ∙ ap (λ i. s.0 + slot_count i) q.2
        | inr j ↦ absurd (l.entered s.0 (start + part_slot p) done.insn at j (slot_behind program shapes start l p n) (slot_inside program shapes start l p))
      ] in
      let at_part = q.1 in
      pass_on program shapes start l l.lookup (state_of done.spreads.next) q.0 p n
      (omega (arith, next, at_part, behind_is)) (leaves start l q.0 q.1 q.2).prepares

  next_known : Follows done.insn done.target k (suc k) → IsKnown program shapes (suc k) done.spreads.next
  next_known follows = record { facts = next_facts follows (stands program shapes plain s.0 done.insn at); expected = next_expected follows }

  -- where it jumps
  module _ (t : ℕ) (e : done.target ≡ Some t) (b : AbsState) (f : done.spreads.jumping ≡ Some b) where
    leads : LeadsTo program k done.insn t
    leads = subst (IsTarget program k done.insn) e (all.each k done.insn done.target done.insn_is done.target_is)

    jumps : (p : ℕ) → StartsAt program t p → JumpsTo done.insn s.0 p
    jumps p there =
        let from : leads.from ≡ s.0 = same_Some _ _ (sym leads.from_is ∙ s.1) in
        let to : leads.to ≡ p = same_Some _ _ (sym leads.to_is ∙ there) in
        (leads.by, leads.by_is, ap pos (sym to) ∙ leads.sum ∙ ap (λ f. pos (f + 1) +ℤ leads.by) from)

    jump_facts : Stands program shapes s.0 done.insn → Knows program shapes t b
    jump_facts (inl part) =
        let q = part_of_slot program shapes part.0 part.1 s.0 done.insn at part.2 part.3 in
        let left = leaves part.0 part.1 q.0 q.1 q.2 in
        let kept = jumping_is (λ x. KeepsSaved (state_of done.state) (state_of x) × (x.depth ≡ done.state.depth)) (left.keeps, left.depth)
        (λ x g. some_of (λ x. KeepsSaved (state_of done.state) x × (x.depth ≡ done.state.depth)) done.spreads.taken x g left.keeps_taken) b f in
        part_to t (inr e) b part.0 part.1 q.0 q.1 q.2 kept.0 kept.1
    jump_facts (inr (away, inl c)) = absurd (section_no_jump c.0 leads.by (ap distance (sym c.1) ∙ leads.by_is))
    jump_facts (inr (away, inr simple)) =
        let ready = ready_ordinary away simple in
        ordinary_to t (inr e) b away simple (jumping_is (λ x. KeepsFacts done.insn (state_of done.state) (state_of x)) (done.spreads.transfer.keeps ready)
        (λ x g. some_here (λ x. KeepsFacts done.insn (state_of done.state) (state_of x)) done.spreads.taken x g (done.spreads.transfer.keeps_taken ready)) b f)

    jump_known : IsKnown program shapes t b
    jump_known = record {
      facts = jump_facts (stands program shapes plain s.0 done.insn at);
      expected = λ start l p n there. absurd (l.entered s.0 (start + part_slot p) done.insn at
          (jumps (start + part_slot p) there) (slot_behind program shapes start l p n)
          (slot_inside program shapes start l p));
    }

  before : AreKnown program shapes (k + 1) done.rest
  before = record {
    paired = λ m h d. known.paired m (omega arith) (sym (done.others m (let n : m ≢ k = omega arith in n)) ∙ d);
    knows = λ m a h e. known.knows m a (omega arith) (ap state_in (sym (done.others m (let n : m ≢ k = omega arith in n))) ∙ e);
  }

  jumped_known : Jumped done.target done.spreads.jumping done.rest done.spreads.mid → AreKnown program shapes (k + 1) done.spreads.mid
  jumped_known (inl f) =
      let l = leads f.0 f.2 f.1 f.3 in
      let further = l.further in
      merged_known program shapes plain (k + 1) f.0 f.1 done.rest done.spreads.mid f.4 (omega (arith, further))
      (target_within program k done.insn f.0 l) (jump_known f.0 f.2 f.1 f.3) before
  jumped_known (inr f) = same_known program shapes (k + 1) done.rest done.spreads.mid f.1 before

  fell_known : Fell done.insn k done.spreads.next done.spreads.mid new → AreKnown program shapes (k + 1) new
  fell_known (inl f) = merged_known program shapes plain (k + 1) (suc k) done.spreads.next done.spreads.mid new
      f.1 (omega arith) (falls_inside program k done.insn plain.graph.last done.insn_is f.0)
      (next_known (inl (f.0, refl))) (jumped_known done.spreads.jumped)
  fell_known (inr f) = same_known program shapes (k + 1) done.spreads.mid new f.1 (jumped_known done.spreads.jumped)

  pub known_more : AreKnown program shapes (k + 1) new
  known_more = fell_known done.spreads.fell

-- a refusal for want of memory
pub memory_refused : (f : InsnFault) (e : ProgramRefusal) (slot : ℕ) → f ≡ faults.Memory → e ≡ refusal_of f slot → e ≡ Memory
memory_refused f e slot g h = h ∙ ap (λ f. refusal_of f slot) g

-- only the entry's state is known, at the start
pub known_first : (program : List Insn) (shapes : List MapShape) (at : Awaited) → StartsFrom at → AreKnown program shapes 0 at
known_first program shapes at s = record { paired = paired; knows = knows }
  where
    paired : (m : ℕ) → 0 ≤ m → at m ≢ Differing
    paired zero h d = (let f : None ≡ Some s.state = sym (ap state_in d) ∙ s.waits in cc)
    paired (suc m) h d = (let f : Nothing ≡ Differing = sym (s.only (suc m) (omega arith)) ∙ d in cc)

    first : Knows program shapes 0 s.state
    first (Register r) = inr (λ p there. inl (subst (LacksRegister program shapes r) (sym (first_start program p there)) lacks_entry))
    first (FrameByte k) = inr (λ p there. subst (WithoutByte program k) (sym (first_start program p there)) without_entry)
    first FramePointer = inl (s.alike.regs 10)
    first (Section true) = inr (λ p there. subst (InSection program false) (sym (first_start program p there)) section_entry)
    first (Section false) = inl s.alike.depth

    -- no instruction inside a guarded lookup is the first
    nothing_yet : IsExpected program shapes 0 s.state
    nothing_yet start l p n there =
        let zero_slot : start + part_slot p ≡ 0 = first_start program (start + part_slot p) there in
        let more = slot_behind program shapes start l p n in
        absurd (omega (arith, zero_slot, more))

    knows : (m : ℕ) (a : AbsState) → 0 ≤ m → state_in (at m) ≡ Some a → IsKnown program shapes m a
    knows zero a h e = subst (IsKnown program shapes 0) (same_Some _ _ (sym s.waits ∙ e)) (record { facts = first; expected = nothing_yet })
    knows (suc m) a h e = absurd (let f : None ≡ Some a = sym (ap state_in (s.only (suc m) (omega arith))) ∙ e in cc)
