-- What contracts see of the frame in code.
use Rattle.std.specs.Prelude.{◌≡◌, ℕ, ◌*◌, ◌<◌, List, slice_index_or}
use Rattle.register_kinds.specs.declared.kind.RegKind.{RegKind}
use Rattle.register_kinds.specs.declared.kind.RegKind.TheVariants as kinds
use Rattle.register_kinds.specs.declared.kind.CellKind.{CellKind}
use Rattle.register_kinds.specs.declared.kind.CellKind.TheVariants as classes

-- the class of each byte, what was stored last in each group, and the first group that may be
-- written
pub record Contents : Type 0 where
  pub cells : List CellKind
  pub spills : List RegKind
  pub first : ℕ

-- Of the groups before the first one no byte is written, and nothing was stored there.
pub record AreUntouched (f : Contents) : Type 0 where
  pub bytes : (k : ℕ) → k < 8 * f.first → slice_index_or f.cells k classes.Unwritten ≡ classes.Unwritten
  pub groups : (g : ℕ) → g < f.first → slice_index_or f.spills g kinds.Unwritten ≡ kinds.Unwritten
