-- Edges of the jump graph by slots and by indexes, and which instructions are reached.
use Rattle.bpf_model.proofs.Prelude.{◌≡◌, ℕ, suc, ◌+◌, ◌<◌, refl, sym, ◌∙◌, ap, subst, arith, inl, inr, Bool, true, List, [], ◌∷◌, length, slice_get, Option}
use Rattle.bpf_model.proofs.Prelude.{Some, None, ◌⊎◌, pos, ◌+ℤ◌, IfSome, cases_eq, slice_get_within, same_Some, same-pos, JumpsTo, GoesTo, Reached}
use Rattle.bpf_model.proofs.Prelude.{reached_entry, reached_next, starts_from, slot_count, insn_at, starts-next, starts_ordered, starts_apart, start_of-insn}
use Rattle.bpf_model.proofs.Prelude.{slot_count_some, start-entry, start-insn, start-inside, LeadsTo, StartsAt, get-below}
use Rattle.model_laws.proofs.Prelude.{Insn}
use Rattle.verifier.proofs.Prelude.{Follows, IsInsnReached, HasTargets, IsTarget}
use Rattle.verifier.specs.FirstPass.{Marks}
use Rattle.verifier.proofs.Edges.{index_here}

-- the first instruction begins at slot 0
pub first_start : (program : List Insn) (p : ℕ) → StartsAt program 0 p → p ≡ 0
first_start [] p e = absurd (cc)
first_start (i ∷ is) p e = sym (same_Some _ _ e)

-- an edge between instructions by their indexes
pub record HasEdge (program : List Insn) (targets : List (Option ℕ)) (j k : ℕ) (i : Insn) (slot : ℕ) : Type 0 where
  pub insn : slice_get program j ≡ Some i
  pub start : StartsAt program j slot
  pub target : Option ℕ
  pub target_is : slice_get targets j ≡ Some target
  pub follows : Follows i target j k
  pub before : j < k

module _ (program : List Insn) (targets : List (Option ℕ)) (long : length targets ≡ length program) (all : HasTargets program targets) where
  falls_into : (j k slot p : ℕ) (i : Insn) → slice_get program j ≡ Some i → StartsAt program j slot →
      StartsAt program k p → p ≡ slot + slot_count i → (k ≡ suc j) × (j < k)
  falls_into j k slot p i e at there f =
      let before : slot < p = omega (arith, slot_count_some i) in
      let h : j < k = starts_ordered 0 program j k slot p at there before in
      let inside : suc j < length program = omega (arith, start-inside program k p there) in
      let next : StartsAt program (suc j) (slot + slot_count i) = starts-next 0 program j slot i e at inside in
      (starts_apart 0 program k (suc j) p there (next ∙ ap Some (sym f)), h)

  jumps_into : (j k slot p : ℕ) (i : Insn) (t : Option ℕ) → StartsAt program j slot → StartsAt program k p →
      JumpsTo i slot p → IsTarget program j i t → (t ≡ Some k) × (j < k)
  jumps_into j k slot p i None at there jumps none = absurd (let e : Some jumps.0 ≡ None = sym jumps.1 ∙ none in cc)
  jumps_into j k slot p i (Some u) at there jumps leads =
      let by : jumps.0 ≡ leads.by = same_Some _ _ (sym jumps.1 ∙ leads.by_is) in
      let from : slot ≡ leads.from = same_Some _ _ (sym at ∙ leads.from_is) in
      let to : pos p ≡ pos leads.to = jumps.2 ∙ ap (λ d. pos (slot + 1) +ℤ d) by ∙ ap (λ f. pos (f + 1) +ℤ leads.by) from ∙ sym leads.sum in
      let same : u ≡ k = starts_apart 0 program u k p (leads.to_is ∙ ap Some (sym (same-pos p leads.to to))) there in
      (ap Some same, subst (λ u. j < u) same leads.further)

  -- an edge by slots into an instruction's start is one by indexes
  pub edge_into : (k slot p : ℕ) (i : Insn) → insn_at program slot ≡ Some i → GoesTo i slot p → StartsAt program k p →
      (j : ℕ) × HasEdge program targets j k i slot
  edge_into k slot p i e goes there = at goes
    where
      j : (j : ℕ) × (slice_get program j ≡ Some i) × StartsAt program j slot
      j = index_here program slot i e

      t : (t : Option ℕ) × (slice_get targets j.0 ≡ Some t)
      t = get-below targets j.0 (omega (arith, slice_get_within program j.0 i j.1))

      at : GoesTo i slot p → (j : ℕ) × HasEdge program targets j k i slot
      at (inl f) =
          let r = falls_into j.0 k slot p i j.1 j.2 there f.1 in
          (j.0, record { insn = j.1; start = j.2; target = t.0; target_is = t.1; follows = inl (f.0, r.0); before = r.1 })
      at (inr f) =
          let r = jumps_into j.0 k slot p i t.0 j.2 there f (all.each j.0 i t.0 j.1 t.1) in
          (j.0, record { insn = j.1; start = j.2; target = t.0; target_is = t.1; follows = inr r.0; before = r.1 })

  -- an index that follows another gives an edge between their slots
  pub edge_from : (j k slot p : ℕ) (i : Insn) (t : Option ℕ) → slice_get program j ≡ Some i →
      slice_get targets j ≡ Some t → Follows i t j k → StartsAt program j slot → StartsAt program k p →
      GoesTo i slot p
  edge_from j k slot p i t e f (inl g) at there =
      let inside : suc j < length program = omega (arith, start-inside program k p there, g.1) in
      let next : StartsAt program (suc j) (slot + slot_count i) = starts-next 0 program j slot i e at inside in
      inl (g.0, same_Some _ _ (sym there ∙ ap (slice_get (starts_from 0 program)) g.1 ∙ next))
  edge_from j k slot p i t e f (inr g) at there =
      let leads : LeadsTo program j i k = subst (IsTarget program j i) g (all.each j i t e f) in
      let from : leads.from ≡ slot = same_Some _ _ (sym leads.from_is ∙ at) in
      let to : leads.to ≡ p = same_Some _ _ (sym leads.to_is ∙ there) in
      inr (leads.by, leads.by_is, ap pos (sym to) ∙ leads.sum ∙ ap (λ f. pos (f + 1) +ℤ leads.by) from)

-- a target stands inside the program
pub target_within : (program : List Insn) (k : ℕ) (i : Insn) (t : ℕ) → IsTarget program k i (Some t) → t < length program
target_within program k i t leads = start-inside program t leads.to leads.to_is

pub target_fits : (program : List Insn) (k : ℕ) (i : Insn) (target : Option ℕ) → IsTarget program k i target → IfSome target (λ t. t < length program)
target_fits program k i None leads = tt
target_fits program k i (Some t) leads = target_within program k i t leads

-- a slot that is reached and isn't the first is reached along an edge
pub reached_by : {program : List Insn} {p : ℕ} → Reached program p → (p ≡ 0)
    ⊎ ((slot : ℕ) × (i : Insn) × Reached program slot × (insn_at program slot ≡ Some i) × GoesTo i slot p)
reached_by reached_entry = inl refl
reached_by (reached_next slot target i r e g) = inr (slot, i, r, e, g)

-- an instruction that follows a reached one is reached
pub reached_on : (program : List Insn) (targets : List (Option ℕ)) (long : length targets ≡ length program)
    (all : HasTargets program targets) (j k : ℕ) (i : Insn) (t : Option ℕ)
    → slice_get program j ≡ Some i → slice_get targets j ≡ Some t → Follows i t j k → IsInsnReached program j → IsInsnReached program k
reached_on program targets long all j k i t e f follows r p there =
    let s = start_of-insn 0 program j i e in
    reached_next s.0 p i (r s.0 s.1) (start-insn program j s.0 i e s.1) (edge_from program targets long all j k s.0 p i t e f follows s.1 there)

-- what is reached and lies behind instructions that are all done is marked
module _ (program : List Insn) (targets : List (Option ℕ)) (long : length targets ≡ length program)
    (all : HasTargets program targets) (reached : List Bool) (k : ℕ)
    (first : slice_get reached 0 ≡ Some true)
    (ahead : (j m : ℕ) (i : Insn) (t : Option ℕ) → j < k → slice_get program j ≡ Some i → slice_get targets j ≡ Some t
    → Follows i t j m → slice_get reached m ≡ Some true) where
  pub marked : (p : ℕ) → StartsAt program k p → Reached program p → slice_get reached k ≡ Some true
  marked p there r = elim (reached_by r) [
    | inl e ↦
        let zero_there : StartsAt program k 0 = there ∙ ap Some e in
        let k0 : k ≡ 0 = starts_apart 0 program k 0 0 zero_there (start-entry program (omega (arith, start-inside program k p there))) in
        ap (slice_get reached) k0 ∙ first
    | inr e ↦
        let edge = edge_into program targets long all k e.0 p e.1 e.3 e.4 there in
        ahead edge.0 k e.1 edge.1.target edge.1.before edge.1.insn edge.1.target_is edge.1.follows
  ]

-- one more instruction was marked from
pub marks_sound : (program : List Insn) (targets : List (Option ℕ)) (long : length targets ≡ length program)
    (all : HasTargets program targets) (old new : List Bool) (k : ℕ) (i : Insn) (t : Option ℕ)
    → slice_get program k ≡ Some i → slice_get targets k ≡ Some t → IsInsnReached program k
    → ((j : ℕ) → slice_get old j ≡ Some true → IsInsnReached program j) → Marks i t k old new
    → (j : ℕ) → slice_get new j ≡ Some true → IsInsnReached program j
marks_sound program targets long all old new k i t e f r sound marks j g = elim (marks.other j g) [
  | inl h ↦ sound j h
  | inr h ↦ reached_on program targets long all k j i t e f h r
]

pub marks_ahead : (program : List Insn) (targets : List (Option ℕ)) (old new : List Bool) (k : ℕ) (insn : Insn) (target : Option ℕ)
    → slice_get program k ≡ Some insn → slice_get targets k ≡ Some target
    → ((j m : ℕ) (i : Insn) (t : Option ℕ) → j < k → slice_get program j ≡ Some i → slice_get targets j ≡ Some t →
    Follows i t j m → slice_get old m ≡ Some true)
    → Marks insn target k old new
    → (j m : ℕ) (i : Insn) (t : Option ℕ) → j < k + 1 → slice_get program j ≡ Some i → slice_get targets j ≡ Some t →
    Follows i t j m → slice_get new m ≡ Some true
marks_ahead program targets old new k insn target here there ahead marks j m i t h e f follows = elim (cases_eq j k) [
  | inl g ↦
      let same_insn : i ≡ insn = same_Some _ _ (sym e ∙ ap (slice_get program) g ∙ here) in
      let same_target : t ≡ target = same_Some _ _ (sym f ∙ ap (slice_get targets) g ∙ there) in
      marks.there m (subst (λ k. Follows insn target k m) g (subst (λ t. Follows insn t j m) same_target (subst (λ i. Follows i t j m) same_insn follows)))
  | inr n ↦ marks.stays m (ahead j m i t (omega arith) e f follows)
]

pub before_more : (program : List Insn) (k : ℕ) → IsInsnReached program k →
    ((j : ℕ) → j < k → IsInsnReached program j) → (j : ℕ) → j < k + 1 → IsInsnReached program j
before_more program k here before j h = elim (cases_eq j k) [ inl g ↦ subst (IsInsnReached program) (sym g) here | inr n ↦ before j (omega arith) ]
