-- What the kind of a joined register or byte is.
use Rattle.std.specs.Prelude.{◌≡◌, ℕ, Bool, if◌then◌else◌, min, max, bit_and, bit_or}
use Rattle.scalar_domain.specs.declared.scalar.Scalar.{Scalar}
use Rattle.plan_laws.specs.Kinds.{Kind, Blank, Mixed, Ended, Num, CtxAt, FrameAt, MapAt, ValueAt}
use Rattle.plan_laws.specs.Kinds.{MaybeNull, CellKind, BlankCell, MixedCell, EndedCell, ByteCell}
use Rattle.plan_laws.specs.Kinds.{PartCell, AbsState as Known}
use Rattle.register_kinds.specs.declared.kind.CellKind as classes
use Rattle.register_kinds.specs.declared.kind.CellKind.TheVariants.{Unwritten, Byte, Part}
use Rattle.register_kinds.specs.declared.kind.CellKind.TheVariants as class

-- the hull of the bounds, and the bits that agree
pub record IsHull (s t u : Scalar) : Type 0 where
  pub least : u.least ≡ min s.least t.least
  pub greatest : u.greatest ≡ max s.greatest t.greatest
  pub zeros : u.may ≡ bit_or s.may t.may
  pub ones : u.must ≡ bit_and s.must t.must

-- alike where both are equal, else mixed
abbrev pub IsAlike : {A : Type 0} → A → A → Type 0 → Kind → Type 0
IsAlike x y Same c = (x ≡ y → Same) × ((x ≡ y → ⊥) → c ≡ Mixed)

-- The third kind is that of what is of the first or of the second: unwritten before ended, ended
-- before mixed.
abbrev pub IsJoinedKind : Kind → Kind → Kind → Type 0
IsJoinedKind Blank b c = c ≡ Blank
IsJoinedKind a Blank c = c ≡ Blank
IsJoinedKind Ended b c = c ≡ Ended
IsJoinedKind a Ended c = c ≡ Ended
IsJoinedKind (Num s) (Num t) c = (u : Scalar) × (c ≡ Num u) × IsHull s t u
IsJoinedKind (CtxAt s) (CtxAt t) c = (u : Scalar) × (c ≡ CtxAt u) × IsHull s t u
IsJoinedKind (FrameAt o) (FrameAt p) c = IsAlike o p (c ≡ FrameAt o) c
IsJoinedKind (MapAt m) (MapAt n) c = IsAlike m n (c ≡ MapAt m) c
IsJoinedKind (ValueAt m s) (ValueAt n t) c =
    IsAlike m n ((u : Scalar) × (c ≡ ValueAt m u) × IsHull s t u) c
IsJoinedKind (MaybeNull m x) (MaybeNull n y) c = IsAlike m n ((id : ℕ) × (c ≡ MaybeNull m id)) c
IsJoinedKind a b c = c ≡ Mixed

-- parts of what has nothing in common are mixed
abbrev pub joined_part : Kind → CellKind
joined_part Blank = MixedCell
joined_part Ended = MixedCell
joined_part Mixed = MixedCell
joined_part (Num s) = MixedCell
joined_part kind = PartCell kind

abbrev pub IsJoinedCell : CellKind → CellKind → CellKind → Type 0
IsJoinedCell BlankCell b c = c ≡ BlankCell
IsJoinedCell a BlankCell c = c ≡ BlankCell
IsJoinedCell EndedCell b c = c ≡ EndedCell
IsJoinedCell a EndedCell c = c ≡ EndedCell
IsJoinedCell ByteCell ByteCell c = c ≡ ByteCell
IsJoinedCell (PartCell x) (PartCell y) c = (z : Kind) × IsJoinedKind x y z × (c ≡ joined_part z)
IsJoinedCell a b c = c ≡ MixedCell

pub record AreJoined (a b c : Known) : Type 0 where
  pub regs : (r : ℕ) → IsJoinedKind (a.regs r) (b.regs r) (c.regs r)
  pub cells : (k : ℕ) → IsJoinedCell (a.cells k) (b.cells k) (c.cells k)

-- The class of a byte of either class; `kept` says whether the references that were stored join to
-- one.
abbrev pub joined_class : classes.CellKind → classes.CellKind → Bool → classes.CellKind
joined_class Byte Byte kept = Byte
joined_class Part Part kept = if kept then Part else class.Mixed
joined_class Unwritten b kept = Unwritten
joined_class a Unwritten kept = Unwritten
joined_class class.Ended b kept = class.Ended
joined_class a class.Ended kept = class.Ended
joined_class a b kept = class.Mixed
