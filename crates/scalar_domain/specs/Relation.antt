-- What an edge of a conditional jump says of the two operands, in their unsigned order.
use Rattle.std.specs.Prelude.{◌≡◌, ◌≢◌, ℕ, ◌<◌, ◌≤◌, ◌^◌, ◌⊎◌, bit_and, Bool, true, false}
use Rattle.std.specs.Int.{w64}
use Rattle.bpf_model.specs.Arithmetic.{compares, holds}
use Rattle.bpf_model.specs.declared.opcode.Condition.{Condition}
use Rattle.bpf_model.specs.declared.opcode.Condition.TheVariants as condition
use Rattle.bpf_model.specs.declared.opcode.Size.{Size}
use Rattle.bpf_model.specs.declared.opcode.Size.TheVariants.{Word32, Word64}
use Rattle.scalar_domain.specs.declared.scalar.Scalar.{Scalar}
use Rattle.scalar_domain.specs.declared.relation.Relation.{Relation}
use Rattle.scalar_domain.specs.declared.relation.Relation.TheVariants.{Below, AtMost, Above}
use Rattle.scalar_domain.specs.declared.relation.Relation.TheVariants.{AtLeast, Equal, Different}
use Rattle.scalar_domain.specs.declared.relation.Relation.TheVariants.{Apart, Unknown}
use Rattle.scalar_domain.specs.Mask.{HasBits}
use Rattle.scalar_domain.specs.Scalar.{Holds, HoldsSome, IsNoWider}

-- two numbers stand in this relation
abbrev pub Related : Relation → ℕ → ℕ → Type 0
Related Below x y = x < y
Related AtMost x y = x ≤ y
Related Above x y = y < x
Related AtLeast x y = y ≤ x
Related Equal x y = x ≡ y
Related Different x y = x ≢ y
Related Apart x y = bit_and x y ≡ 0
Related Unknown x y = Unit {0}

-- The relations that bound one number by the other.
abbrev pub Bounding : Relation → Type 0
Bounding Different = ⊥
Bounding Apart = ⊥
Bounding Unknown = ⊥
Bounding relation = Unit {0}

-- The relation on the edge where a condition holds, or where it does not; of a signed one nothing
-- is said.
abbrev pub relation_on : Condition → Bool → Relation
relation_on condition.Equal true = Equal
relation_on condition.NotEqual false = Equal
relation_on condition.Equal false = Different
relation_on condition.NotEqual true = Different
relation_on condition.Less true = Below
relation_on condition.Less false = AtLeast
relation_on condition.LessOrEqual true = AtMost
relation_on condition.LessOrEqual false = Above
relation_on condition.Greater true = Above
relation_on condition.Greater false = AtMost
relation_on condition.GreaterOrEqual true = AtLeast
relation_on condition.GreaterOrEqual false = Below
relation_on condition.SharesBits false = Apart
relation_on other taken = Unknown

-- The unsigned form of a condition.
abbrev pub unsigned_condition : Condition → Condition
unsigned_condition condition.SignedLess = condition.Less
unsigned_condition condition.SignedLessOrEqual = condition.LessOrEqual
unsigned_condition condition.SignedGreater = condition.Greater
unsigned_condition condition.SignedGreaterOrEqual = condition.GreaterOrEqual
unsigned_condition other = other

-- whether a condition is a signed order
abbrev pub signed_order : Condition → Bool
signed_order condition.SignedLess = true
signed_order condition.SignedLessOrEqual = true
signed_order condition.SignedGreater = true
signed_order condition.SignedGreaterOrEqual = true
signed_order other = false

-- An order of two numbers as signed words, whose sign bit is worth this much: where the lesser has
-- no sign, the greater has none, and they are in that order.
abbrev pub SignedRelated : ℕ → Relation → ℕ → ℕ → Type 0
SignedRelated sign Below x y = x < sign → (x < y) × (y < sign)
SignedRelated sign AtMost x y = x < sign → (x ≤ y) × (y < sign)
SignedRelated sign Above x y = y < sign → (y < x) × (x < sign)
SignedRelated sign AtLeast x y = y < sign → (y ≤ x) × (x < sign)
SignedRelated sign other x y = Unit {0}

-- The edges on which a comparison with a constant moves the bounds: those of the unsigned orders,
-- and of equality.
abbrev pub MovesBounds : Condition → Bool → Type 0
MovesBounds condition.Less taken = Unit {0}
MovesBounds condition.LessOrEqual taken = Unit {0}
MovesBounds condition.Greater taken = Unit {0}
MovesBounds condition.GreaterOrEqual taken = Unit {0}
MovesBounds condition.Equal true = Unit {0}
MovesBounds condition.NotEqual false = Unit {0}
MovesBounds other taken = ⊥

-- The edges on which a comparison says that two numbers differ.
abbrev pub TellsDifferent : Condition → Bool → Type 0
TellsDifferent condition.Equal false = Unit {0}
TellsDifferent condition.NotEqual true = Unit {0}
TellsDifferent other taken = ⊥

-- A number is no bound of a scalar.
pub record IsNoBound (s : Scalar) (k : ℕ) : Type 0 where
  pub least : s.least ≢ k
  pub greatest : s.greatest ≢ k

-- Both bounds of a scalar go along the edge of a comparison of 64 bits with a constant.
pub record GoesAlong (c : Condition) (taken : Bool) (s : Scalar) (k : ℕ) : Type 0 where
  pub least : holds w64 c s.least k ≡ taken
  pub greatest : holds w64 c s.greatest k ≡ taken

-- The number lies between the bounds.
pub record IsBetween (s : Scalar) (n : ℕ) : Type 0 where
  pub least : s.least ≤ n
  pub greatest : n ≤ s.greatest

-- Two sides hold these numbers.
abbrev pub AreHeld : ℕ → ℕ → Scalar × Scalar → Type 0
AreHeld x y p = Holds p.0 x × Holds p.1 y

-- Two sides are no wider than these.
abbrev pub AreNoWider : Scalar → Scalar → Scalar × Scalar → Type 0
AreNoWider a b p = IsNoWider p.0 a × IsNoWider p.1 b

-- Numbers of this size are compared as they are.
abbrev pub FitsSize : Size → Scalar → Type 0
FitsSize Word32 s = s.greatest < 2 ^ 32
FitsSize Word64 s = Unit {0}

-- By which numbers of the one side the other is refined: where they are to be equal by those that it
-- holds, where they share no bit by those with its known bits that are not above its greatest bound,
-- else by those between its bounds.
abbrev pub Counts : Relation → Scalar → ℕ → Type 0
Counts Equal s n = Holds s n
Counts Apart s n = HasBits s.may s.must n × n ≤ s.greatest
Counts other s n = IsBetween s n

-- A number of the first kind and one of the second stand so.
pub record HasPair (P : ℕ → ℕ → Type 0) (A B : ℕ → Type 0) : Type 0 where
  pub left : ℕ
  pub right : ℕ
  pub of_left : A left
  pub of_right : B right
  pub holds : P left right

-- Each side holds a number that stands so with one of those by which it is refined.
pub record AreLeft (P : ℕ → ℕ → Type 0) (K : Scalar → ℕ → Type 0) (a b : Scalar) : Type 0 where
  pub left : HasPair P (Holds a) (K b)
  pub right : HasPair P (K a) (Holds b)

-- What is left of both sides: where each holds some number, each side held one that stands so.
abbrev pub LeavesPairs : (ℕ → ℕ → Type 0) → (Scalar → ℕ → Type 0) → Scalar → Scalar
    → Scalar × Scalar → Type 0
LeavesPairs P K a b p = HoldsSome p.0 → HoldsSome p.1 → AreLeft P K a b

-- The same, or both sides stay as they were.
abbrev pub LeavesSome : (ℕ → ℕ → Type 0) → (Scalar → ℕ → Type 0) → Scalar → Scalar
    → Scalar × Scalar → Type 0
LeavesSome P K a b p = HoldsSome p.0 → HoldsSome p.1 → (p ≡ (a, b)) ⊎ AreLeft P K a b

-- The refinement on this edge leaves a number of each side.
abbrev pub LeavesNumbers : Size → Condition → Bool → Scalar → Scalar → Type 0
LeavesNumbers size c taken a b =
    AreLeft (λ x y. compares size c x y ≡ taken) (Counts (relation_on c taken)) a b

-- Two numbers stand in this relation, which is known.
abbrev pub Told : Relation → ℕ → ℕ → Type 0
Told Unknown x y = ⊥
Told relation x y = Related relation x y

-- Two numbers without a sign stand in this order.
pub record ToldSigned (sign : ℕ) (relation : Relation) (x y : ℕ) : Type 0 where
  pub left : x < sign
  pub right : y < sign
  pub related : Related relation x y
