-- What the edges of a conditional jump say.
use Rattle.bpf_model.proofs.Prelude.{◌≡◌, ℕ, suc, pos, negsuc, refl, ap, ap₂, inl, inr, ◌-◌, ◌%◌, ◌^◌, ◌<◌, ◌≤◌, sym, ◌∙◌, subst, arith, Bool, true, false}
use Rattle.bpf_model.proofs.Prelude.{bit_and, ◌==◌, int_lt, int_le, Option, Some, None, Width, w32, w64, bits, hbits, sel, eqb-true, eqb-false, eq-eqb}
use Rattle.bpf_model.proofs.Prelude.{ltb-true, ltb-false, leb-true, lt-ltb, le-ltb, le-leb, lt-leb, not_from_true, false≢true, cases_lt, to_z_pos, and-not}
use Rattle.bpf_model.proofs.Prelude.{and_comm, mod-eq_of_lt, signed, and_self}
use Rattle.scalar_domain.proofs.Prelude.{IsNoWider, Within, Related, relation_on, unsigned_condition, signed_order, SignedRelated, TellsDifferent}
use Rattle.std.specs.Prelude.{IsSomeAnd}
use Rattle.std.proofs.lemmas.Bool.{not-true, leb-false, not-false}
use Rattle.bpf_model.specs.Arithmetic.{holds}
use Rattle.bpf_model.specs.declared.opcode.Condition.{Condition}
use Rattle.bpf_model.specs.declared.opcode.Condition.TheVariants as condition
use Rattle.scalar_domain.specs.declared.scalar.Scalar.{Scalar}
use Rattle.scalar_domain.specs.declared.relation.Relation.{Relation}
use Rattle.scalar_domain.specs.Relation.{Bounding, MovesBounds, GoesAlong}
use Rattle.scalar_domain.specs.declared.relation.Relation.TheVariants.{Different}
use Rattle.scalar_domain.proofs.Bits.{within-and, within_le, within-trans}

pub related : (w : Width) (c : Condition) (t : Bool) (x y : ℕ) → holds w c x y ≡ t → Related (relation_on c t) x y
related w condition.Equal true x y e = eqb-true x y e
related w condition.Equal false x y e = eqb-false x y e
related w condition.Greater true x y e = ltb-true y x e
related w condition.Greater false x y e = ltb-false y x e
related w condition.GreaterOrEqual true x y e = leb-true y x e
related w condition.GreaterOrEqual false x y e = leb-false y x e
related w condition.SharesBits true x y e = tt
related w condition.SharesBits false x y e = eqb-true (bit_and x y) 0 (not-false (bit_and x y == 0) e)
related w condition.NotEqual true x y e = eqb-false x y (not-true (x == y) e)
related w condition.NotEqual false x y e = eqb-true x y (not-false (x == y) e)
related w condition.SignedGreater true x y e = tt
related w condition.SignedGreater false x y e = tt
related w condition.SignedGreaterOrEqual true x y e = tt
related w condition.SignedGreaterOrEqual false x y e = tt
related w condition.Less true x y e = ltb-true x y e
related w condition.Less false x y e = ltb-false x y e
related w condition.LessOrEqual true x y e = leb-true x y e
related w condition.LessOrEqual false x y e = leb-false x y e
related w condition.SignedLess true x y e = tt
related w condition.SignedLess false x y e = tt
related w condition.SignedLessOrEqual true x y e = tt
related w condition.SignedLessOrEqual false x y e = tt

pub tells_apart : (c : Condition) (t : Bool) → TellsDifferent c t → relation_on c t ≡ Different
tells_apart condition.Equal true m = absurd m
tells_apart condition.Equal false m = refl
tells_apart condition.Greater t m = absurd m
tells_apart condition.GreaterOrEqual t m = absurd m
tells_apart condition.SharesBits t m = absurd m
tells_apart condition.NotEqual true m = refl
tells_apart condition.NotEqual false m = absurd m
tells_apart condition.SignedGreater t m = absurd m
tells_apart condition.SignedGreaterOrEqual t m = absurd m
tells_apart condition.Less t m = absurd m
tells_apart condition.LessOrEqual t m = absurd m
tells_apart condition.SignedLess t m = absurd m
tells_apart condition.SignedLessOrEqual t m = absurd m

pub along : (c : Condition) (t : Bool) (x y : ℕ) → MovesBounds c t → Related (relation_on c t) x y → holds w64 c x y ≡ t
along condition.Equal true x y m h = eq-eqb x y h
along condition.Equal false x y m h = absurd m
along condition.Greater true x y m h = lt-ltb y x h
along condition.Greater false x y m h = le-ltb y x h
along condition.GreaterOrEqual true x y m h = le-leb y x h
along condition.GreaterOrEqual false x y m h = lt-leb y x h
along condition.SharesBits true x y m h = absurd m
along condition.SharesBits false x y m h = absurd m
along condition.NotEqual true x y m h = absurd m
along condition.NotEqual false x y m h = not_from_true (x == y) (eq-eqb x y h)
along condition.SignedGreater true x y m h = absurd m
along condition.SignedGreater false x y m h = absurd m
along condition.SignedGreaterOrEqual true x y m h = absurd m
along condition.SignedGreaterOrEqual false x y m h = absurd m
along condition.Less true x y m h = lt-ltb x y h
along condition.Less false x y m h = le-ltb x y h
along condition.LessOrEqual true x y m h = le-leb x y h
along condition.LessOrEqual false x y m h = lt-leb x y h
along condition.SignedLess true x y m h = absurd m
along condition.SignedLess false x y m h = absurd m
along condition.SignedLessOrEqual true x y m h = absurd m
along condition.SignedLessOrEqual false x y m h = absurd m

pub bounding : (c : Condition) (t : Bool) → MovesBounds c t → Bounding (relation_on c t)
bounding condition.Equal true m = tt
bounding condition.Equal false m = absurd m
bounding condition.Greater true m = tt
bounding condition.Greater false m = tt
bounding condition.GreaterOrEqual true m = tt
bounding condition.GreaterOrEqual false m = tt
bounding condition.SharesBits true m = absurd m
bounding condition.SharesBits false m = absurd m
bounding condition.NotEqual true m = absurd m
bounding condition.NotEqual false m = tt
bounding condition.SignedGreater true m = absurd m
bounding condition.SignedGreater false m = absurd m
bounding condition.SignedGreaterOrEqual true m = absurd m
bounding condition.SignedGreaterOrEqual false m = absurd m
bounding condition.Less true m = tt
bounding condition.Less false m = tt
bounding condition.LessOrEqual true m = tt
bounding condition.LessOrEqual false m = tt
bounding condition.SignedLess true m = absurd m
bounding condition.SignedLess false m = absurd m
bounding condition.SignedLessOrEqual true m = absurd m
bounding condition.SignedLessOrEqual false m = absurd m

-- Signed orders, where the lesser number has no sign.
negative : (w : Width) (n : ℕ) → 2 ^ hbits w ≤ n → (m : ℕ) × (signed w n ≡ negsuc m)
negative w n h = (2 ^ bits w - suc n, ap (λ t. sel t (pos n) (negsuc (2 ^ bits w - suc n))) (le-ltb n (2 ^ hbits w) h))

lt_true : (w : Width) (x y : ℕ) → x < 2 ^ hbits w → int_lt (signed w x) (signed w y) ≡ true → (x < y) × (y < 2 ^ hbits w)
lt_true w x y p e = elim (cases_lt y (2 ^ hbits w)) [
  | inl q ↦ (ltb-true x y (sym (ap₂ int_lt (to_z_pos w x p) (to_z_pos w y q)) ∙ e), q)
  | inr q ↦ let n = negative w y q in absurd (false≢true (sym (ap₂ int_lt (to_z_pos w x p) n.1) ∙ e))
]

le_true : (w : Width) (x y : ℕ) → x < 2 ^ hbits w → int_le (signed w x) (signed w y) ≡ true → (x ≤ y) × (y < 2 ^ hbits w)
le_true w x y p e = elim (cases_lt y (2 ^ hbits w)) [
  | inl q ↦ (leb-true x y (sym (ap₂ int_le (to_z_pos w x p) (to_z_pos w y q)) ∙ e), q)
  | inr q ↦ let n = negative w y q in absurd (false≢true (sym (ap₂ int_le (to_z_pos w x p) n.1) ∙ e))
]

lt_false : (w : Width) (x y : ℕ) → y < 2 ^ hbits w → int_lt (signed w x) (signed w y) ≡ false → (y ≤ x) × (x < 2 ^ hbits w)
lt_false w x y p e = elim (cases_lt x (2 ^ hbits w)) [
  | inl q ↦ (ltb-false x y (sym (ap₂ int_lt (to_z_pos w x q) (to_z_pos w y p)) ∙ e), q)
  | inr q ↦ let n = negative w x q in absurd (false≢true (sym e ∙ ap₂ int_lt n.1 (to_z_pos w y p)))
]

le_false : (w : Width) (x y : ℕ) → y < 2 ^ hbits w → int_le (signed w x) (signed w y) ≡ false → (y < x) × (x < 2 ^ hbits w)
le_false w x y p e = elim (cases_lt x (2 ^ hbits w)) [
  | inl q ↦ (leb-false x y (sym (ap₂ int_le (to_z_pos w x q) (to_z_pos w y p)) ∙ e), q)
  | inr q ↦ let n = negative w x q in absurd (false≢true (sym e ∙ ap₂ int_le n.1 (to_z_pos w y p)))
]

pub signed_related : (w : Width) (c : Condition) (t : Bool) (x y : ℕ) → signed_order c ≡ true → holds w c x y ≡ t →
    SignedRelated (2 ^ hbits w) (relation_on (unsigned_condition c) t) x y
signed_related w condition.Equal true x y s e = absurd (false≢true s)
signed_related w condition.Equal false x y s e = absurd (false≢true s)
signed_related w condition.Greater true x y s e = absurd (false≢true s)
signed_related w condition.Greater false x y s e = absurd (false≢true s)
signed_related w condition.GreaterOrEqual true x y s e = absurd (false≢true s)
signed_related w condition.GreaterOrEqual false x y s e = absurd (false≢true s)
signed_related w condition.SharesBits true x y s e = absurd (false≢true s)
signed_related w condition.SharesBits false x y s e = absurd (false≢true s)
signed_related w condition.NotEqual true x y s e = absurd (false≢true s)
signed_related w condition.NotEqual false x y s e = absurd (false≢true s)
signed_related w condition.SignedGreater true x y s e = λ p. lt_true w y x p e
signed_related w condition.SignedGreater false x y s e = λ p. lt_false w y x p e
signed_related w condition.SignedGreaterOrEqual true x y s e = λ p. le_true w y x p e
signed_related w condition.SignedGreaterOrEqual false x y s e = λ p. le_false w y x p e
signed_related w condition.Less true x y s e = absurd (false≢true s)
signed_related w condition.Less false x y s e = absurd (false≢true s)
signed_related w condition.LessOrEqual true x y s e = absurd (false≢true s)
signed_related w condition.LessOrEqual false x y s e = absurd (false≢true s)
signed_related w condition.SignedLess true x y s e = λ p. lt_true w x y p e
signed_related w condition.SignedLess false x y s e = λ p. lt_false w x y p e
signed_related w condition.SignedLessOrEqual true x y s e = λ p. le_true w x y p e
signed_related w condition.SignedLessOrEqual false x y s e = λ p. le_false w x y p e

pub not_signed : (c : Condition) (t : Bool) → MovesBounds c t → signed_order c ≡ true → ⊥
not_signed condition.Equal true m s = false≢true s
not_signed condition.Equal false m s = false≢true s
not_signed condition.Greater true m s = false≢true s
not_signed condition.Greater false m s = false≢true s
not_signed condition.GreaterOrEqual true m s = false≢true s
not_signed condition.GreaterOrEqual false m s = false≢true s
not_signed condition.SharesBits true m s = false≢true s
not_signed condition.SharesBits false m s = false≢true s
not_signed condition.NotEqual true m s = false≢true s
not_signed condition.NotEqual false m s = false≢true s
not_signed condition.SignedGreater true m s = absurd m
not_signed condition.SignedGreater false m s = absurd m
not_signed condition.SignedGreaterOrEqual true m s = absurd m
not_signed condition.SignedGreaterOrEqual false m s = absurd m
not_signed condition.Less true m s = false≢true s
not_signed condition.Less false m s = false≢true s
not_signed condition.LessOrEqual true m s = false≢true s
not_signed condition.LessOrEqual false m s = false≢true s
not_signed condition.SignedLess true m s = absurd m
not_signed condition.SignedLess false m s = absurd m
not_signed condition.SignedLessOrEqual true m s = absurd m
not_signed condition.SignedLessOrEqual false m s = absurd m

some_and : {A : Type 0} {P Q : A → Type 0} (o : Option A) → ((x : A) → P x → Q x) → IsSomeAnd o P → IsSomeAnd o Q
some_and (Some x) f h = f x h
some_and None f h = absurd h

-- both bounds of the left side stand in the relation to a number
abbrev pub BothRelated : Relation → ℕ → Scalar × Scalar → Type 0
BothRelated r k p = Related r p.0.least k × Related r p.0.greatest k

pub goes_along : (c : Condition) (t : Bool) (r : Relation) (o : Option (Scalar × Scalar)) (k x : ℕ) → r ≡ relation_on c t → MovesBounds c t →
    (Bounding r → Related r x k → IsSomeAnd o (BothRelated r k)) → holds w64 c x k ≡ t → IsSomeAnd o (λ p. GoesAlong c t p.0 k)
goes_along c t r o k x e m f h =
    let g = subst (λ q. Bounding q → Related q x k → IsSomeAnd o (BothRelated q k)) e f (bounding c t m) (related w64 c t x k h) in
    some_and {P = BothRelated (relation_on c t) k} o (λ p b. record { least = along c t p.0.least k m b.0; greatest = along c t p.0.greatest k m b.1 }) g

pub narrow_compares : (c : Condition) (x y : ℕ) → x < 2 ^ 32 → y < 2 ^ 32 → holds w32 c (x % 2 ^ 32) (y % 2 ^ 32) ≡ holds w32 c x y
narrow_compares c x y p q = ap₂ (holds w32 c) (mod-eq_of_lt p) (mod-eq_of_lt q)

pub outside : (m x : ℕ) → m < 2 ^ 64 → x < 2 ^ 64 → bit_and m x ≡ 0 → Within x (2 ^ 64 - 1 - m)
outside m x p q e = and_comm x (2 ^ 64 - 1 - m) ∙ omega (arith, and-not 64 m x p q, e)

pub apart : (m x y : ℕ) → Within m y → bit_and x y ≡ 0 → bit_and m x ≡ 0
apart m x y h e =
    let l : bit_and m x ≤ bit_and y x = within_le (bit_and m x) (bit_and y x) (within-and m x y x h (and_self x)) in
    omega (arith, l, and_comm x y, e)

pub no_wider-refl : (s : Scalar) → IsNoWider s s
no_wider-refl s = record { least = omega arith; greatest = omega arith; zeros = and_self s.may; ones = and_self s.must }

pub no_wider-trans : (r s t : Scalar) → IsNoWider r s → IsNoWider s t → IsNoWider r t
no_wider-trans r s t h k = record {
  least = omega (arith, h.least, k.least);
  greatest = omega (arith, h.greatest, k.greatest);
  zeros = within-trans r.may s.may t.may h.zeros k.zeros;
  ones = within-trans t.must s.must r.must k.ones h.ones;
}
