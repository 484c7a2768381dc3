-- Joins, a register or a byte at a time, while the list of pairs grows.
use Rattle.bpf_model.proofs.Prelude.{◌≡◌, ◌≢◌, ℕ, ◌+◌, ◌-◌, ◌<◌, ◌≤◌, List, length, Some, refl, sym, ap, subst, ◌∙◌, arith, inl, inr, below_more, slice_get}
use Rattle.bpf_model.proofs.Prelude.{slice_set, slice_index_or, nat_lt, unwrap_or, if◌then◌else◌, cases_lt, lt-ltb, le-ltb, slice_get-get_or}
use Rattle.bpf_model.proofs.Prelude.{slice_get_within, get_or-set_same, get_or-set_other, get_or_past, get_or-replicate, length-replicate, ℤ, and_self}
use Rattle.plan_laws.proofs.Prelude.{HasOffset, Kind, Blank, Mixed, Ended, Num, CtxAt, FrameAt, MapAt, ValueAt, MaybeNull, IsWiderKind}
use Rattle.register_kinds.proofs.Prelude.{kind_of, kind_at, kind_in, class_in, IsHull, IsJoinedKind, IsBelow, PairsGrow, pair_of, IsTable, JoinsKind}
use Rattle.scalar_domain.proofs.Prelude.{Holds, le_self}
use Rattle.std.proofs.Math.ListN.{replicate}
use Rattle.scalar_domain.specs.declared.scalar.Scalar.{Scalar}
use Rattle.register_kinds.specs.declared.kind.RegKind.{RegKind}
use Rattle.register_kinds.specs.declared.kind.RegKind.TheVariants as kinds
use Rattle.register_kinds.specs.declared.kind.CellKind.TheVariants as cells
use Rattle.std.specs.Int.Bits.{or_self}
use Rattle.std.proofs.Math.Nat.{min-eq_left, max-eq_left}
use Rattle.register_kinds.specs.Pairs.{IsPairing}

-- what an identity stands for
pub pair_old : (top : ℕ) (pairs : List (ℕ × ℕ)) (id : ℕ) → id < top → pair_of top pairs id ≡ (id, id)
pair_old top pairs id l = ap (λ b. if b then (id, id) else unwrap_or (slice_get pairs (id - top)) (0, 0)) (lt-ltb id top l)

pub pair_new : (top : ℕ) (pairs : List (ℕ × ℕ)) (i : ℕ) (p : ℕ × ℕ) → slice_get pairs i ≡ Some p → pair_of top pairs (top + i) ≡ p
pair_new top pairs i p e =
    let s : (top + i) - top ≡ i = omega arith in
    ap (λ b. if b then (top + i, top + i) else unwrap_or (slice_get pairs ((top + i) - top)) (0, 0)) (le-ltb (top + i) top (omega arith))
    ∙ (ap (λ k. unwrap_or (slice_get pairs k) (0, 0)) s ∙ ap (λ o. unwrap_or o (0, 0)) e)

pub pair_more : (top : ℕ) (old new : List (ℕ × ℕ)) (id : ℕ) → PairsGrow old new → id < top + length old → pair_of top old id ≡ pair_of top new id
pair_more top old new id x l = elim (cases_lt id top) [
  | inl h ↦ pair_old top old id h ∙ sym (pair_old top new id h)
  | inr h ↦
      let e : slice_get old (id - top) ≡ Some (slice_index_or old (id - top) (0, 0)) = slice_get-get_or old (id - top) (0, 0) (omega arith) in
      ap (λ o. if nat_lt id top then (id, id) else unwrap_or o (0, 0)) (e ∙ sym (x (id - top) (slice_index_or old (id - top) (0, 0)) e))
]

pub grows_length : (old new : List (ℕ × ℕ)) → PairsGrow old new → length old ≤ length new
grows_length old new x = elim (cases_lt (length new) (length old)) [
  | inl l ↦
      let e : slice_get old (length new) ≡ Some (slice_index_or old (length new) (0, 0)) = slice_get-get_or old (length new) (0, 0) l in
      omega (arith, slice_get_within new (length new) (slice_index_or old (length new) (0, 0)) (x (length new) (slice_index_or old (length new) (0, 0)) e))
  | inr l ↦ l
]

-- renamings that agree below a number
wider_more : (f g : ℕ → ℕ) (n : ℕ) → ((id : ℕ) → id < n → f id ≡ g id) → (k l : Kind) → IsBelow n l → IsWiderKind f k l → IsWiderKind g k l
wider_more f g n e (MaybeNull map i) (MaybeNull map' j) b w = (w.0, sym (e j b) ∙ w.1)
wider_more f g n e (Num s) (Num t) b w = w
wider_more f g n e (ValueAt map s) (ValueAt map' t) b w = w
wider_more f g n e (CtxAt s) (CtxAt t) b w = w
wider_more f g n e (FrameAt o) (FrameAt p) b w = w
wider_more f g n e (MapAt o) (MapAt p) b w = w
wider_more f g n e k Blank b w = tt
wider_more f g n e k Mixed b w = tt
wider_more f g n e k Ended b w = tt
wider_more f g n e k l b w = absurd w

pub below_kind : (m n : ℕ) (k : Kind) → m ≤ n → IsBelow m k → IsBelow n k
below_kind m n (MaybeNull map id) l b = omega arith
below_kind m n Blank l b = tt
below_kind m n Mixed l b = tt
below_kind m n Ended l b = tt
below_kind m n (Num s) l b = tt
below_kind m n (CtxAt o) l b = tt
below_kind m n (FrameAt o) l b = tt
below_kind m n (MapAt map) l b = tt
below_kind m n (ValueAt map s) l b = tt

module _ (top : ℕ) (old new : List (ℕ × ℕ)) (x : PairsGrow old new) where
  more : top + length old ≤ top + length new
  more = omega (arith, grows_length old new x)

  left-same : (id : ℕ) → id < top + length old → (pair_of top old id).0 ≡ (pair_of top new id).0
  left-same id l = ap (λ (p : ℕ × ℕ). p.0) (pair_more top old new id x l)

  right-same : (id : ℕ) → id < top + length old → (pair_of top old id).1 ≡ (pair_of top new id).1
  right-same id l = ap (λ (p : ℕ × ℕ). p.1) (pair_more top old new id x l)

  pub kind_later : (a b c : Kind) → JoinsKind top old a b c → JoinsKind top new a b c
  kind_later a b c j = record {
    left = wider_more (λ id. (pair_of top old id).0) (λ id. (pair_of top new id).0) (top + length old) left-same a c j.below j.left;
    right = wider_more (λ id. (pair_of top old id).1) (λ id. (pair_of top new id).1) (top + length old) right-same b c j.below j.right;
    below = below_kind (top + length old) (top + length new) c more j.below;
    exact = j.exact;
  }

-- unwritten on one side is unwritten when joined
module _ (top : ℕ) (pairs : List (ℕ × ℕ)) where
  wide-blank : (f : ℕ → ℕ) (k : Kind) → IsWiderKind f k Blank
  wide-blank f (MaybeNull map i) = tt
  wide-blank f k = tt

  pub joins_blank : (b : Kind) → JoinsKind top pairs Blank b Blank
  joins_blank b = record { left = tt; right = wide-blank (λ id. (pair_of top pairs id).1) b; below = tt; exact = refl }

-- what is the same on both sides stays
module _ (top : ℕ) (pairs : List (ℕ × ℕ)) where
  same_wider : (f : ℕ → ℕ) → ((id : ℕ) → id < top → f id ≡ id) → (k : Kind) → IsBelow top k → IsWiderKind f k k
  same_wider f e (MaybeNull map i) b = (refl, e i b)
  same_wider f e (Num s) b = λ n h. h
  same_wider f e (ValueAt map s) b = (refl, λ o h. h)
  same_wider f e (CtxAt s) b = λ o h. h
  same_wider f e (FrameAt o) b = refl
  same_wider f e (MapAt m) b = refl
  same_wider f e Blank b = tt
  same_wider f e Mixed b = tt
  same_wider f e Ended b = tt

  hull_same : (s : Scalar) → IsHull s s s
  hull_same s = record {
    least = sym (min-eq_left (le_self s.least));
    greatest = sym (max-eq_left (le_self s.greatest));
    zeros = sym (or_self s.may);
    ones = sym (and_self s.must);
  }

  joined_same : (k : Kind) → IsJoinedKind k k k
  joined_same Blank = refl
  joined_same Ended = refl
  joined_same Mixed = refl
  joined_same (Num s) = (s, refl, hull_same s)
  joined_same (CtxAt s) = (s, refl, hull_same s)
  joined_same (FrameAt o) = (λ _. refl, λ ne. absurd (ne refl))
  joined_same (MapAt m) = (λ _. refl, λ ne. absurd (ne refl))
  joined_same (ValueAt m s) = (λ _. (s, refl, hull_same s), λ ne. absurd (ne refl))
  joined_same (MaybeNull m x) = (λ _. (x, refl), λ ne. absurd (ne refl))

  pub joins_same : (k : Kind) → IsBelow top k → JoinsKind top pairs k k k
  joins_same k b = record {
    left = same_wider (λ id. (pair_of top pairs id).0) (λ id l. ap (λ (p : ℕ × ℕ). p.0) (pair_old top pairs id l)) k b;
    right = same_wider (λ id. (pair_of top pairs id).1) (λ id l. ap (λ (p : ℕ × ℕ). p.1) (pair_old top pairs id l)) k b;
    below = below_kind top (top + length pairs) k (omega arith) b;
    exact = joined_same k;
  }

-- registers joined in turn: with one more, and all of the list
pub kinds_more : (top i : ℕ) (pairs pairs' : List (ℕ × ℕ)) (xs old others : List RegKind) (k : RegKind) → i < length xs → PairsGrow pairs pairs'
    → ((r : ℕ) → r < i → JoinsKind top pairs (kind_at old r) (kind_at others r) (kind_at xs r)) →
    JoinsKind top pairs' (kind_at old i) (kind_at others i) (kind_of k)
    → (r : ℕ) → r < i + 1 → JoinsKind top pairs' (kind_at old r) (kind_at others r) (kind_at (slice_set xs i k) r)
kinds_more top i pairs pairs' xs old others k l x done here = below_more _ i
    (λ r h. let ne : r ≢ i = omega arith in subst (λ y.
    JoinsKind top pairs' (kind_at old r) (kind_at others r) (kind_of y))
    (sym (get_or-set_other xs i r k kinds.Unwritten ne)) (kind_later top pairs pairs' x _ _ _ (done r h)))
    (subst (λ y. JoinsKind top pairs' (kind_at old i) (kind_at others i) (kind_of y)) (sym (get_or-set_same xs i k kinds.Unwritten l)) here)

pub kinds_all : (top : ℕ) (pairs : List (ℕ × ℕ)) (old others xs : List RegKind) → length xs ≡ length others → length old ≡ length others
    → ((r : ℕ) → r < length others → JoinsKind top pairs (kind_at old r) (kind_at others r) (kind_at xs r)) → (r : ℕ)
    → JoinsKind top pairs (kind_at old r) (kind_at others r) (kind_at xs r)
kinds_all top pairs old others xs e f all r = elim (cases_lt r (length others)) [
  | inl l ↦ all r l
  | inr l ↦ subst (λ y. JoinsKind top pairs (kind_at old r) (kind_at others r) (kind_of y)) (sym (get_or_past xs r kinds.Unwritten (omega arith)))
      (subst (λ y. JoinsKind top pairs (kind_of y) (kind_at others r) (kind_of kinds.Unwritten))
      (sym (get_or_past old r kinds.Unwritten (omega arith))) (joins_blank top pairs (kind_at others r)))
]

pair-there : (top : ℕ) (pairs : List (ℕ × ℕ)) (id : ℕ) → top ≤ id → id < top + length pairs → slice_get pairs (id - top) ≡ Some (pair_of top pairs id)
pair-there top pairs id l h =
    let e : slice_get pairs (id - top) ≡ Some (slice_index_or pairs (id - top) (0, 0)) = slice_get-get_or pairs (id - top) (0, 0) (omega arith) in
    let i : top + (id - top) ≡ id = omega arith in
    let p : pair_of top pairs id ≡ slice_index_or pairs (id - top) (0, 0) =
    subst (λ j. pair_of top pairs j ≡ slice_index_or pairs (id - top) (0, 0)) i
    (pair_new top pairs (id - top) (slice_index_or pairs (id - top) (0, 0)) e) in
    e ∙ ap Some (sym p)

pub table_pairs : (top n : ℕ) (pairs : List (ℕ × ℕ)) → n ≡ top + length pairs → IsTable pairs → IsPairing top n (pair_of top pairs)
table_pairs top n pairs e t = record {
  same = λ id l. pair_old top pairs id l;
  unequal = λ id l h f. t.unequal (id - top) (pair_of top pairs id) (pair-there top pairs id l (omega (arith, e))) f;
  single = λ i j a b c d f.
      let same : i - top ≡ j - top = t.single (i - top) (j - top) (pair_of top pairs i)
      (pair-there top pairs i a (omega (arith, e)))
      (pair-there top pairs j c (omega (arith, e)) ∙ ap Some (sym f)) in
      omega arith;
}

pub maybe_joined : (top : ℕ) (pairs : List (ℕ × ℕ)) (a b : RegKind) (m n x y z : ℕ) → a ≡ kinds.MaybeNull m x →
    b ≡ kinds.MaybeNull n y → m ≡ n → ((map : ℕ) → JoinsKind top pairs (MaybeNull map x) (MaybeNull map y)
    (MaybeNull map z)) → JoinsKind top pairs (kind_of a) (kind_of b) (MaybeNull m z)
maybe_joined top pairs a b m n x y z e f g h =
    let ea : kind_of a ≡ MaybeNull m x = ap kind_of e in
    let eb : kind_of b ≡ MaybeNull m y = ap kind_of f ∙ ap (λ k. MaybeNull k y) (sym g) in
    subst (λ k. JoinsKind top pairs k (kind_of b) (MaybeNull m z)) (sym ea) (subst (λ k. JoinsKind top pairs (MaybeNull m x) k (MaybeNull m z)) (sym eb) (h m))

-- numbers, and offsets in one region: the hull
module _ (top : ℕ) (pairs : List (ℕ × ℕ)) (a b : RegKind) (s t u : Scalar) (l : (n : ℕ) → Holds s n → Holds u n)
    (r : (n : ℕ) → Holds t n → Holds u n) (hull : IsHull s t u) where
  offset_wider : (x : Scalar) → ((n : ℕ) → Holds x n → Holds u n) → (o : ℤ) → HasOffset x o → HasOffset u o
  offset_wider x f o h = record { raised = h.raised; is = h.is; limit = h.limit; holds = f h.raised h.holds }

  pub numbers_joined : a ≡ kinds.Num s → b ≡ kinds.Num t → JoinsKind top pairs (kind_of a) (kind_of b) (Num u)
  numbers_joined e f =
      subst (λ k. JoinsKind top pairs (kind_of k) (kind_of b) (Num u)) (sym e) (subst (λ k. JoinsKind top pairs (Num s) (kind_of k) (Num u)) (sym f)
      (record { left = l; right = r; below = tt; exact = (u, refl, hull) }))

  pub contexts_joined : a ≡ kinds.Ctx s → b ≡ kinds.Ctx t → JoinsKind top pairs (kind_of a) (kind_of b) (CtxAt u)
  contexts_joined e f =
      subst (λ k. JoinsKind top pairs (kind_of k) (kind_of b) (CtxAt u)) (sym e) (subst (λ k. JoinsKind top pairs (CtxAt s) (kind_of k) (CtxAt u)) (sym f)
      (record { left = offset_wider s l; right = offset_wider t r; below = tt; exact = (u, refl, hull) }))

  values_are : (m n : ℕ) → m ≡ n → JoinsKind top pairs (ValueAt m s) (ValueAt n t) (ValueAt m u)
  values_are m n e = record { left = (refl, offset_wider s l); right = (e, offset_wider t r); below = tt; exact = (λ _. (u, refl, hull), λ ne. absurd (ne e)) }

  pub values_joined : (m n : ℕ) → a ≡ kinds.Value m s → b ≡ kinds.Value n t → m ≡ n → JoinsKind top pairs (kind_of a) (kind_of b) (ValueAt m u)
  values_joined m n e f g =
      subst (λ k. JoinsKind top pairs (kind_of k) (kind_of b) (ValueAt m u)) (sym e)
      (subst (λ k. JoinsKind top pairs (ValueAt m s) (kind_of k) (ValueAt m u)) (sym f) (values_are m n g))

-- registers and bytes of the entry's state are unwritten
pub kinds_unwritten : (n r : ℕ) → kind_in (replicate n kinds.Unwritten) r ≡ kinds.Unwritten
kinds_unwritten n r = elim (cases_lt r n) [
  | inl l ↦ get_or-replicate n r kinds.Unwritten kinds.Unwritten l
  | inr l ↦ get_or_past (replicate n kinds.Unwritten) r kinds.Unwritten (omega (arith, length-replicate n kinds.Unwritten))
]

pub cells_unwritten : (n k : ℕ) → class_in (replicate n cells.Unwritten) k ≡ cells.Unwritten
cells_unwritten n k = elim (cases_lt k n) [
  | inl l ↦ get_or-replicate n k cells.Unwritten cells.Unwritten l
  | inr l ↦ get_or_past (replicate n cells.Unwritten) k cells.Unwritten (omega (arith, length-replicate n cells.Unwritten))
]
