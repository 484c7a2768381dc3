-- Pairs of numbers between the bounds of two sides.
use Rattle.bpf_model.proofs.Prelude.{◌≡◌, ◌≢◌, ℕ, refl, sym, ◌∙◌, ap, ap₂, ◌-◌, ◌<◌, ◌≤◌, ◌^◌, arith, Bool, true, false, ◌==◌, not, int_lt, int_le, bit_and}
use Rattle.bpf_model.proofs.Prelude.{Width, w32, w64, and_self, hbits, eq-eqb, ne_eqb, lt-ltb, le-ltb, le-leb, lt-leb, not_from_true, false≢true, to_z_pos}
use Rattle.bpf_model.proofs.Prelude.{and-not, and_comm, compares}
use Rattle.scalar_domain.proofs.Prelude.{Within, Holds, HoldsSome, IsConstant, IsNoWider, Related, relation_on, unsigned_condition, signed_order}
use Rattle.scalar_domain.proofs.Prelude.{TellsDifferent, IsBetween, AreLeft, Counts, Told, ToldSigned}
use Rattle.bpf_model.specs.Arithmetic.{holds}
use Rattle.bpf_model.specs.declared.opcode.Condition.{Condition}
use Rattle.bpf_model.specs.declared.opcode.Condition.TheVariants as condition
use Rattle.bpf_model.specs.declared.opcode.Size.TheVariants.{Word32}
use Rattle.scalar_domain.specs.declared.scalar.Scalar.{Scalar}
use Rattle.scalar_domain.specs.declared.relation.Relation.{Relation}
use Rattle.scalar_domain.specs.declared.relation.Relation.TheVariants.{Below, AtMost, Above, AtLeast, Equal, Different, Apart, Unknown}
use Rattle.scalar_domain.specs.Relation.{LeavesNumbers}
use Rattle.scalar_domain.proofs.Bits.{within-trans, within_le}
use Rattle.scalar_domain.proofs.Edges.{narrow_compares}

pub low : (s : Scalar) → IsBetween s s.least
low s = record { least = omega arith; greatest = s.ordered }

pub high : (s : Scalar) → IsBetween s s.greatest
high s = record { least = s.ordered; greatest = omega arith }

-- between the bounds of a side, and so between those of a wider one
pub wider : (s wide : Scalar) (n : ℕ) → IsNoWider s wide → IsBetween s n → IsBetween wide n
wider s wide n w h = record { least = omega (arith, w.least, h.least); greatest = omega (arith, w.greatest, h.greatest) }

-- a number of a side, and so of a wider one
pub held_wider : (s wide : Scalar) (n : ℕ) → IsNoWider s wide → Holds s n → Holds wide n
held_wider s wide n w h = record {
  least = omega (arith, w.least, h.least);
  greatest = omega (arith, w.greatest, h.greatest);
  zeros = within-trans n s.may wide.may h.zeros w.zeros;
  ones = within-trans wide.must s.must n w.ones h.ones;
}

-- a number that is left and one that counts there is such a pair, and so are they by another name
pub mapped : (P Q : ℕ → ℕ → Type 0) (K L : Scalar → ℕ → Type 0) (a b c d : Scalar) → AreLeft P K a b →
    ((x y : ℕ) → Holds a x → K b y → P x y → Holds c x × L d y × Q x y) →
    ((x y : ℕ) → K a x → Holds b y → P x y → L c x × Holds d y × Q x y) → AreLeft Q L c d
mapped P Q K L a b c d h f g =
    let l = f h.left.left h.left.right h.left.of_left h.left.of_right h.left.holds in
    let r = g h.right.left h.right.right h.right.of_left h.right.of_right h.right.holds in
    record {
      left = record { left = h.left.left; right = h.left.right; of_left = l.0; of_right = l.1; holds = l.2 };
      right = record { left = h.right.left; right = h.right.right; of_left = r.0; of_right = r.1; holds = r.2 };
    }

pub turned : (P : ℕ → ℕ → Type 0) (K : Scalar → ℕ → Type 0) (a b : Scalar) → AreLeft P K b a → AreLeft (λ x y. P y x) K a b
turned P K a b h = record {
  left = record { left = h.right.right; right = h.right.left; of_left = h.right.of_right; of_right = h.right.of_left; holds = h.right.holds };
  right = record { left = h.left.right; right = h.left.left; of_left = h.left.of_right; of_right = h.left.of_left; holds = h.left.holds };
}

-- of numbers in an order one is left of either side
pub ordered : (P : ℕ → ℕ → Type 0) (a b l r : Scalar) → IsNoWider l a → IsNoWider r b →
    ((x : ℕ) → x ≤ l.greatest → P x b.greatest) → ((y : ℕ) → r.least ≤ y → P a.least y) →
    HoldsSome l → HoldsSome r → AreLeft P IsBetween a b
ordered P a b l r v w f g h k = record {
  left = record {
    left = h.number;
    right = b.greatest;
    of_left = held_wider l a h.number v h.held;
    of_right = high b;
    holds = f h.number h.held.greatest;
  };
  right = record {
    left = a.least;
    right = k.number;
    of_left = low a;
    of_right = held_wider r b k.number w k.held;
    holds = g k.number k.held.least;
  };
}

-- two numbers in the relation of an edge go along it
pub told_along : (w : Width) (c : Condition) (t : Bool) (x y : ℕ) → signed_order c ≡ false → Told (relation_on c t) x y → holds w c x y ≡ t
told_along w condition.Equal true x y s h = eq-eqb x y h
told_along w condition.Equal false x y s h = ne_eqb x y h
told_along w condition.Greater true x y s h = lt-ltb y x h
told_along w condition.Greater false x y s h = le-ltb y x h
told_along w condition.GreaterOrEqual true x y s h = le-leb y x h
told_along w condition.GreaterOrEqual false x y s h = lt-leb y x h
told_along w condition.SharesBits true x y s h = absurd h
told_along w condition.SharesBits false x y s h = not_from_true (bit_and x y == 0) (eq-eqb (bit_and x y) 0 h)
told_along w condition.NotEqual true x y s h = ap not (ne_eqb x y h)
told_along w condition.NotEqual false x y s h = not_from_true (x == y) (eq-eqb x y h)
told_along w condition.SignedGreater t x y s h = absurd (false≢true (sym s))
told_along w condition.SignedGreaterOrEqual t x y s h = absurd (false≢true (sym s))
told_along w condition.Less true x y s h = lt-ltb x y h
told_along w condition.Less false x y s h = le-ltb x y h
told_along w condition.LessOrEqual true x y s h = le-leb x y h
told_along w condition.LessOrEqual false x y s h = lt-leb x y h
told_along w condition.SignedLess t x y s h = absurd (false≢true (sym s))
told_along w condition.SignedLessOrEqual t x y s h = absurd (false≢true (sym s))

-- the same of signed orders, of numbers without a sign
pub told_signed : (w : Width) (c : Condition) (t : Bool) (x y : ℕ) → signed_order c ≡ true →
    ToldSigned (2 ^ hbits w) (relation_on (unsigned_condition c) t) x y → holds w c x y ≡ t
told_signed w condition.Equal t x y s h = absurd (false≢true s)
told_signed w condition.Greater t x y s h = absurd (false≢true s)
told_signed w condition.GreaterOrEqual t x y s h = absurd (false≢true s)
told_signed w condition.SharesBits t x y s h = absurd (false≢true s)
told_signed w condition.NotEqual t x y s h = absurd (false≢true s)
told_signed w condition.SignedGreater true x y s h = ap₂ int_lt (to_z_pos w y h.right) (to_z_pos w x h.left) ∙ lt-ltb y x h.related
told_signed w condition.SignedGreater false x y s h = ap₂ int_lt (to_z_pos w y h.right) (to_z_pos w x h.left) ∙ le-ltb y x h.related
told_signed w condition.SignedGreaterOrEqual true x y s h = ap₂ int_le (to_z_pos w y h.right) (to_z_pos w x h.left) ∙ le-leb y x h.related
told_signed w condition.SignedGreaterOrEqual false x y s h = ap₂ int_le (to_z_pos w y h.right) (to_z_pos w x h.left) ∙ lt-leb y x h.related
told_signed w condition.Less t x y s h = absurd (false≢true s)
told_signed w condition.LessOrEqual t x y s h = absurd (false≢true s)
told_signed w condition.SignedLess true x y s h = ap₂ int_lt (to_z_pos w x h.left) (to_z_pos w y h.right) ∙ lt-ltb x y h.related
told_signed w condition.SignedLess false x y s h = ap₂ int_lt (to_z_pos w x h.left) (to_z_pos w y h.right) ∙ le-ltb x y h.related
told_signed w condition.SignedLessOrEqual true x y s h = ap₂ int_le (to_z_pos w x h.left) (to_z_pos w y h.right) ∙ le-leb x y h.related
told_signed w condition.SignedLessOrEqual false x y s h = ap₂ int_le (to_z_pos w x h.left) (to_z_pos w y h.right) ∙ lt-leb x y h.related

-- of a signed order the numbers between the bounds count
pub counts_signed : (c : Condition) (t : Bool) (s : Scalar) (n : ℕ) → signed_order c ≡ true → IsBetween s n → Counts (relation_on c t) s n
counts_signed condition.Equal t s n o h = absurd (false≢true o)
counts_signed condition.Greater t s n o h = absurd (false≢true o)
counts_signed condition.GreaterOrEqual t s n o h = absurd (false≢true o)
counts_signed condition.SharesBits t s n o h = absurd (false≢true o)
counts_signed condition.NotEqual t s n o h = absurd (false≢true o)
counts_signed condition.SignedGreater true s n o h = h
counts_signed condition.SignedGreater false s n o h = h
counts_signed condition.SignedGreaterOrEqual true s n o h = h
counts_signed condition.SignedGreaterOrEqual false s n o h = h
counts_signed condition.Less t s n o h = absurd (false≢true o)
counts_signed condition.LessOrEqual t s n o h = absurd (false≢true o)
counts_signed condition.SignedLess true s n o h = h
counts_signed condition.SignedLess false s n o h = h
counts_signed condition.SignedLessOrEqual true s n o h = h
counts_signed condition.SignedLessOrEqual false s n o h = h

pub left_signed : (w : Width) (c : Condition) (t : Bool) (a b : Scalar) → signed_order c ≡ true →
    AreLeft (ToldSigned (2 ^ hbits w) (relation_on (unsigned_condition c) t)) IsBetween a b →
    AreLeft (λ x y. holds w c x y ≡ t) (Counts (relation_on c t)) a b
left_signed w c t a b s h =
    mapped (ToldSigned (2 ^ hbits w) (relation_on (unsigned_condition c) t)) (λ x y. holds w c x y ≡ t) IsBetween
    (Counts (relation_on c t)) a b a b h
    (λ x y p q r. (p, counts_signed c t b y s q, told_signed w c t x y s r))
    (λ x y p q r. (counts_signed c t a x s p, q, told_signed w c t x y s r))

pub left_along : (w : Width) (c : Condition) (t : Bool) (a b : Scalar) → signed_order c ≡ false →
    AreLeft (Told (relation_on c t)) (Counts (relation_on c t)) a b →
    AreLeft (λ x y. holds w c x y ≡ t) (Counts (relation_on c t)) a b
left_along w c t a b s h =
    mapped (Told (relation_on c t)) (λ x y. holds w c x y ≡ t) (Counts (relation_on c t)) (Counts (relation_on c t)) a b a b h
    (λ x y p q r. (p, q, told_along w c t x y s r))
    (λ x y p q r. (p, q, told_along w c t x y s r))

pub between : (s : Scalar) (n : ℕ) → Holds s n → IsBetween s n
between s n h = record { least = h.least; greatest = h.greatest }

-- of the numbers without the one of the other side
pub parted : (a b l : Scalar) (k : ℕ) → IsConstant b k → IsNoWider l a → ((x : ℕ) → IsBetween l x → x ≢ k) →
    HoldsSome l → HoldsSome b → AreLeft (λ x y. x ≢ y) IsBetween a b
parted a b l k i w f h j =
    let x = h.number in
    let n : x ≢ k = f x (between l x h.held) in
    let y = j.number in
    let e : y ≡ k = omega (arith, j.held.least, j.held.greatest, i.least, i.greatest) in
    let held = held_wider l a x w h.held in
    record {
      left = record { left = x; right = y; of_left = held; of_right = between b y j.held; holds = λ d. n (d ∙ e) };
      right = record { left = x; right = y; of_left = between a x held; of_right = j.held; holds = λ d. n (d ∙ e) };
    }

-- of the numbers that both sides hold
pub shared : (a b l r : Scalar) → IsNoWider l a → IsNoWider l b → IsNoWider r a → IsNoWider r b →
    HoldsSome l → HoldsSome r → AreLeft (λ x y. x ≡ y) Holds a b
shared a b l r p q v w h k =
    let x = h.number in
    let y = k.number in
    record {
      left = record { left = x; right = x; of_left = held_wider l a x p h.held; of_right = held_wider l b x q h.held; holds = refl };
      right = record { left = y; right = y; of_left = held_wider r a y v k.held; of_right = held_wider r b y w k.held; holds = refl };
    }

-- no one of a mask stands in a number within the other bits
pub inside : (m x : ℕ) → m < 2 ^ 64 → x < 2 ^ 64 → Within x (2 ^ 64 - 1 - m) → bit_and m x ≡ 0
inside m x p q h = omega (arith, and-not 64 m x p q, and_comm x (2 ^ 64 - 1 - m), h)

-- of the numbers without the ones that the other side must have
pub apart_left : (a b l r : Scalar) → a.greatest < 2 ^ 64 → b.greatest < 2 ^ 64 → IsNoWider l a → IsNoWider r b →
    Within l.may (2 ^ 64 - 1 - b.must) → Within r.may (2 ^ 64 - 1 - a.must) →
    HoldsSome l → HoldsSome r → AreLeft (λ x y. bit_and x y ≡ 0) (Counts Apart) a b
apart_left a b l r p q v w f g h k =
    let x = h.number in
    let y = k.number in
    let i = held_wider l a x v h.held in
    let j = held_wider r b y w k.held in
    let m : a.must ≤ x = within_le a.must x i.ones in
    let n : b.must ≤ y = within_le b.must y j.ones in
    record {
      left = record {
        left = x;
        right = b.must;
        of_left = i;
        of_right = (record { zeros = b.consistent; ones = and_self b.must }, omega (arith, n, j.greatest));
        holds = and_comm x b.must ∙ inside b.must x (omega (arith, n, j.greatest, q)) (omega (arith, i.greatest, p))
            (within-trans x l.may (2 ^ 64 - 1 - b.must) h.held.zeros f);
      };
      right = record {
        left = a.must;
        right = y;
        of_left = (record { zeros = a.consistent; ones = and_self a.must }, omega (arith, m, i.greatest));
        of_right = j;
        holds = inside a.must y (omega (arith, m, i.greatest, p)) (omega (arith, j.greatest, q))
            (within-trans y r.may (2 ^ 64 - 1 - a.must) k.held.zeros g);
      };
    }

-- signed orders, of numbers without a sign
pub signed_left : (o : Relation) (P : ℕ → ℕ → Type 0) (sign : ℕ) (a b r : Scalar) → 0 < sign → a.greatest < sign → r.greatest ≤ sign - 1 →
    IsNoWider r b → ((x y : ℕ) → P x y → Related o x y) → AreLeft P IsBetween a r → AreLeft (ToldSigned sign o) IsBetween a b
signed_left o P sign a b r z p q w f h =
    mapped P (ToldSigned sign o) IsBetween IsBetween a r a b h
    (λ x y i j e. (i, wider r b y w j, record { left = omega (arith, i.greatest, p); right = omega (arith, j.greatest, q, z); related = f x y e }))
    (λ x y i j e. (i, held_wider r b y w j, record { left = omega (arith, i.greatest, p); right = omega (arith, j.greatest, q, z); related = f x y e }))

pub signed_right : (o : Relation) (P : ℕ → ℕ → Type 0) (sign : ℕ) (a b r : Scalar) → 0 < sign → b.greatest < sign → r.greatest ≤ sign - 1 →
    IsNoWider r a → ((x y : ℕ) → P y x → Related o x y) → AreLeft P IsBetween b r → AreLeft (ToldSigned sign o) IsBetween a b
signed_right o P sign a b r z p q w f h =
    mapped (λ x y. P y x) (ToldSigned sign o) IsBetween IsBetween r b a b (turned P IsBetween r b h)
    (λ x y i j e. (held_wider r a x w i, j, record { left = omega (arith, i.greatest, q, z); right = omega (arith, j.greatest, p); related = f x y e }))
    (λ x y i j e. (wider r a x w i, j, record { left = omega (arith, i.greatest, q, z); right = omega (arith, j.greatest, p); related = f x y e }))

pub counts_greatest : (r : Relation) (s : Scalar) (n : ℕ) → Counts r s n → n ≤ s.greatest
counts_greatest Below s n h = h.greatest
counts_greatest AtMost s n h = h.greatest
counts_greatest Above s n h = h.greatest
counts_greatest AtLeast s n h = h.greatest
counts_greatest Equal s n h = h.greatest
counts_greatest Different s n h = h.greatest
counts_greatest Apart s n h = h.1
counts_greatest Unknown s n h = h.greatest

-- numbers below 2^32 are compared by their whole, and so by their low halves
pub left_narrow : (c : Condition) (t : Bool) (a b : Scalar) → a.greatest < 2 ^ 32 → b.greatest < 2 ^ 32 →
    AreLeft (λ x y. holds w32 c x y ≡ t) (Counts (relation_on c t)) a b → LeavesNumbers Word32 c t a b
left_narrow c t a b p q h =
    let K = Counts (relation_on c t) in
    let along : (x y : ℕ) → x ≤ a.greatest → y ≤ b.greatest → holds w32 c x y ≡ t → compares Word32 c x y ≡ t =
    λ x y i j e. narrow_compares c x y (omega (arith, i, p)) (omega (arith, j, q)) ∙ e in
    mapped (λ x y. holds w32 c x y ≡ t) (λ x y. compares Word32 c x y ≡ t) K K a b a b h
    (λ x y i j e. (i, j, along x y i.greatest (counts_greatest (relation_on c t) b y j) e))
    (λ x y i j e. (i, j, along x y (counts_greatest (relation_on c t) a x i) j.greatest e))

-- numbers that differ go along an edge that says so
pub differ : (c : Condition) (t : Bool) (x k : ℕ) → TellsDifferent c t → x ≢ k → holds w64 c x k ≡ t
differ condition.Equal true x k m n = absurd m
differ condition.Equal false x k m n = ne_eqb x k n
differ condition.Greater t x k m n = absurd m
differ condition.GreaterOrEqual t x k m n = absurd m
differ condition.SharesBits t x k m n = absurd m
differ condition.NotEqual true x k m n = ap not (ne_eqb x k n)
differ condition.NotEqual false x k m n = absurd m
differ condition.SignedGreater t x k m n = absurd m
differ condition.SignedGreaterOrEqual t x k m n = absurd m
differ condition.Less t x k m n = absurd m
differ condition.LessOrEqual t x k m n = absurd m
differ condition.SignedLess t x k m n = absurd m
differ condition.SignedLessOrEqual t x k m n = absurd m

pub one_held : (s : Scalar) (k : ℕ) → IsConstant s k → Holds s k
one_held s k i = record { least = omega (arith, i.least); greatest = omega (arith, i.greatest); zeros = i.zeros; ones = i.ones }
