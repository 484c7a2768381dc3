-- What is set, forgotten or renamed in a described run.
use Rattle.bpf_model.proofs.Prelude.{◌≡◌, ℕ, ◌/◌, Option, Some, None, inl, inr, refl, sym, ap, subst, ◌∙◌, Bool, true, false, ◌<◌, arith, ◌==◌, nat_le}
use Rattle.bpf_model.proofs.Prelude.{if◌then◌else◌, eq-eqb, ne_eqb, State, put, found_value, returns, choice}
use Rattle.model_laws.proofs.Prelude.{Value, Nothing, Cell, IsNear}
use Rattle.plan_laws.proofs.Prelude.{Kind, Blank, Mixed, Ended, Num, CtxAt, FrameAt, MapAt, ValueAt, MaybeNull, CellKind, BlankCell, MixedCell, EndedCell}
use Rattle.plan_laws.proofs.Prelude.{ByteCell, PartCell, AbsState, IsElementOf, Scene, IsArrayMap, IsHeld, Naming, IsNullOrHeld, IsOf, Stored, IsOfCell}
use Rattle.plan_laws.proofs.Prelude.{AreNear, Describes, with_kind, returned_kind, after_call, IsOther, IsOtherCell, IsFresh, IsWiderKind}
use Rattle.scalar_domain.specs.declared.scalar.Scalar.{Scalar}
use Rattle.plan_laws.specs.Effects.{IsWiderCell, IsWider}

module _ (c : Scene) (ρ : Naming) where
  pub choice-of : (b : Bool) (k l : Kind) (v w : Value) → IsOf c ρ k v → IsOf c ρ l w → IsOf c ρ (if b then k else l) (if b then v else w)
  choice-of true k l v w p q = p
  choice-of false k l v w p q = q

  pub set-of : (r q : ℕ) (k : Kind) (v : Value) (kinds : ℕ → Kind) (values : ℕ → Value) → IsOf c ρ k v →
      IsOf c ρ (kinds q) (values q) → IsOf c ρ (put r k kinds q) (put r v values q)
  set-of r q k v kinds values p h = choice-of (q == r) k (kinds q) v (values q) p h

  pub returned-of : (q : ℕ) (k : Kind) (v : Value) (kinds : ℕ → Kind) (m : State) → IsOf c ρ k v →
      IsOf c ρ (kinds q) (m.regs q) → IsOf c ρ (returned_kind k kinds q) ((returns v m).regs q)
  returned-of q k v kinds m p h = choice-of (q == 0) k (if nat_le q 5 then Blank else kinds q) v
      (if nat_le q 5 then Nothing else m.regs q) p (choice-of (nat_le q 5) Blank (kinds q) Nothing (m.regs q) tt h)

-- what is near stays near
pub near-set : (r : ℕ) (v : Value) (regs : ℕ → Value) (frame : ℕ → Cell) → IsNear v → AreNear regs frame → AreNear (put r v regs) frame
near-set r v regs frame p h = record { regs_near = λ q. choice IsNear (q == r) v (regs q) p (h.regs_near q); cells_near = h.cells_near }

pub near-returned : (v : Value) (m : State) → IsNear v → AreNear m.regs m.frame → AreNear (returns v m).regs m.frame
near-returned v m p h = record {
  regs_near = λ q. choice IsNear (q == 0) v (if nat_le q 5 then Nothing else m.regs q)
      p (choice IsNear (nat_le q 5) Nothing (m.regs q) tt (h.regs_near q));
  cells_near = h.cells_near;
}

pub near-found : (o : Option ℕ) → IsNear (found_value o)
near-found None = tt
near-found (Some n) = omega arith

pub set-described : (a : AbsState) (c : Scene) (m : State) (r place : ℕ) (k : Kind) (v : Value) (d : Describes a c m)
    → IsOf c d.naming k v → IsNear v → Describes (with_kind r k a) c
    (record { regs = put r v m.regs; frame = m.frame; place = place })
set-described a c m r place k v d p n = record {
  naming = d.naming;
  stored = d.stored;
  depth = d.depth;
  near = near-set r v m.regs m.frame n d.near;
  regs = λ q. set-of c d.naming r q k v a.regs m.regs p (d.regs q);
  cells = d.cells;
}

pub placed-described : (a : AbsState) (c : Scene) (m : State) (place : ℕ) → Describes a c m →
    Describes a c (record { regs = m.regs; frame = m.frame; place = place })
placed-described a c m place d = record { naming = d.naming; stored = d.stored; depth = d.depth; near = d.near; regs = d.regs; cells = d.cells }

pub returned-described : (a : AbsState) (c : Scene) (m : State) (k : Kind) (v : Value) (d : Describes a c m) →
    IsOf c d.naming k v → IsNear v → Describes (after_call k a) c (returns v m)
returned-described a c m k v d p n = record {
  naming = d.naming;
  stored = d.stored;
  depth = d.depth;
  near = near-returned v m n d.near;
  regs = λ q. returned-of c d.naming q k v a.regs m p (d.regs q);
  cells = d.cells;
}

-- what has other identities says the same when one is given a meaning
module _ (c : Scene) (ρ : Naming) (id : ℕ) (o : Option ℕ) where
  named-other : (i : ℕ) → (i ≡ id → ⊥) → put id o ρ i ≡ ρ i
  named-other i ne = ap (λ b. if b then o else ρ i) (ne_eqb i id ne)

  pub named-here : put id o ρ id ≡ o
  named-here = ap (λ b. if b then o else ρ id) (eq-eqb id id refl)

  pub other-of : (k : Kind) (v : Value) → IsOther id k → IsOf c ρ k v → IsOf c (put id o ρ) k v
  other-of Blank v ne h = tt
  other-of Mixed v ne h = tt
  other-of Ended v ne h = tt
  other-of (Num s) v ne h = h
  other-of (CtxAt p) v ne h = h
  other-of (FrameAt p) v ne h = h
  other-of (MapAt map) v ne h = h
  other-of (ValueAt map s) v ne h = record { n = h.n; offset = h.offset; is = h.is; there = h.there; held = h.held }
  other-of (MaybeNull map i) v ne h = subst (λ (x : Option ℕ). (v ≡ found_value x) × IsNullOrHeld c map x) (sym (named-other i ne)) h

  pub other-cell : (σ : Stored) (k : ℕ) (cell : CellKind) (x : Cell) → IsOtherCell id cell → IsOfCell c ρ σ k cell x → IsOfCell c (put id o ρ) σ k cell x
  other-cell σ k BlankCell x ne h = tt
  other-cell σ k MixedCell x ne h = tt
  other-cell σ k EndedCell x ne h = tt
  other-cell σ k ByteCell x ne h = h
  other-cell σ k (PartCell kind) x ne h = (h.0, other-of kind (σ (k / 8)) ne h.1)

-- The call of a lookup gives a new identity its meaning.
pub named-described : (a : AbsState) (c : Scene) (m : State) (map id : ℕ) (o : Option ℕ) → IsFresh id a →
    Describes a c m → IsNullOrHeld c map o → Describes (after_call (MaybeNull map id) a) c (returns (found_value o) m)
named-described a c m map id o fresh d held = record {
  naming = put id o d.naming;
  stored = d.stored;
  depth = d.depth;
  near = near-returned (found_value o) m (near-found o) d.near;
  regs = λ q. returned-of c (put id o d.naming) q (MaybeNull map id) (found_value o) a.regs m
      (subst (λ (x : Option ℕ). (found_value o ≡ found_value x) × IsNullOrHeld c map x) (sym (named-here c d.naming id o)) (refl, held))
      (other-of c d.naming id o (a.regs q) (m.regs q) (fresh.regs q) (d.regs q));
  cells = λ k. other-cell c d.naming id o d.stored k (a.cells k) (m.frame k) (fresh.cells k) (d.cells k);
}

-- a join, from either side: identities are renamed
module _ (c : Scene) (ρ : Naming) (left : ℕ → ℕ) where
  wider-of : (k l : Kind) (v : Value) → IsWiderKind left k l → IsOf c ρ k v → IsOf c (λ j. ρ (left j)) l v
  wider-of (MaybeNull map i) (MaybeNull map' j) v w h =
      subst (λ (y : ℕ). (v ≡ found_value (ρ (left j))) × IsNullOrHeld c y (ρ (left j))) (sym w.0)
      (subst (λ (x : ℕ). (v ≡ found_value (ρ x)) × IsNullOrHeld c map (ρ x)) (sym w.1) h)
  wider-of (Num s) (Num t) v w h = (h.0, h.1, h.2, w h.0 h.3)
  wider-of (ValueAt map s) (ValueAt map' t) v w h = record {
    n = h.n;
    offset = h.offset;
    is = h.is;
    there =
        w.1 h.offset h.there;
    held = subst (λ y. IsHeld c y h.n) (sym w.0) h.held;
  }
  wider-of (CtxAt s) (CtxAt t) v w h = record { offset = h.offset; is = h.is; there = w h.offset h.there }
  wider-of (FrameAt o) (FrameAt p) v w h = subst (λ z. IsOf c ρ (FrameAt z) v) w h
  wider-of (MapAt o) (MapAt p) v w h = subst (λ z. IsOf c ρ (MapAt z) v) w h
  wider-of k Blank v w h = tt
  wider-of k Mixed v w h = tt
  wider-of k Ended v w h = tt
  wider-of k l v w h = absurd w

  wider-cell : (σ : Stored) (i : ℕ) (k l : CellKind) (x : Cell) → IsWiderCell left k l → IsOfCell c ρ σ i k x → IsOfCell c (λ j. ρ (left j)) σ i l x
  wider-cell σ i ByteCell ByteCell x w h = h
  wider-cell σ i (PartCell k) (PartCell l) x w h = (h.0, wider-of k l (σ (i / 8)) w h.1)
  wider-cell σ i k BlankCell x w h = tt
  wider-cell σ i k MixedCell x w h = tt
  wider-cell σ i k EndedCell x w h = tt
  wider-cell σ i k l x w h = absurd w

pub widened : (left : ℕ → ℕ) (a b : AbsState) (c : Scene) (m : State) → IsWider left a b → Describes a c m → Describes b c m
widened left a b c m w d = record {
  naming = λ j. d.naming (left j);
  stored = d.stored;
  depth = d.depth ∙ sym w.depth;
  near = d.near;
  regs = λ r. wider-of c d.naming left (a.regs r) (b.regs r) (m.regs r) (w.regs r) (d.regs r);
  cells = λ k. wider-cell c d.naming left d.stored k (a.cells k) (b.cells k) (m.frame k) (w.cells k) (d.cells k);
}

held-outside : (c : Scene) (map n : ℕ) → c.depth ≡ 0 → IsHeld c map n → IsArrayMap c map
held-outside c map n out h = elim h.allowed [
  | inl g ↦ (let inside : 0 < c.depth = g.0 in absurd (omega (arith, inside, out)))
  | inr a ↦ a
]

-- outside every section what is known to be an element is one of an array
pub array_outside : (a : AbsState) (c : Scene) (m : State) (r map : ℕ) (s : Scalar) → Describes a c m → a.depth ≡ 0 →
    a.regs r ≡ ValueAt map s → IsArrayMap c map
array_outside a c m r map s d out e =
    let h : IsElementOf c map s (m.regs r) = subst (λ k. IsOf c d.naming k (m.regs r)) e (d.regs r) in
    held-outside c map h.n (d.depth ∙ out) h.held

pub array_cell_outside : (a : AbsState) (c : Scene) (m : State) (k map : ℕ) (s : Scalar) → Describes a c m →
    a.depth ≡ 0 → a.cells k ≡ PartCell (ValueAt map s) → IsArrayMap c map
array_cell_outside a c m k map s d out e =
    let h : IsOfCell c d.naming d.stored k (PartCell (ValueAt map s)) (m.frame k) = subst (λ x. IsOfCell c d.naming d.stored k x (m.frame k)) e (d.cells k) in
    held-outside c map h.1.n (d.depth ∙ out) h.1.held
