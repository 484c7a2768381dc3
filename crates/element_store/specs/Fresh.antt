-- The cells of a new arena.
use Rattle.std.specs.Prelude.{ℕ, ◌+◌, List, Option, Some, None, map, nat_lt, if◌then◌else◌}
use Rattle.std.specs.List.{range_with_len}
use Rattle.element_store.specs.declared.cell.Standing.TheVariants.{Free}
use Rattle.element_store.specs.declared.cell.SlotCell.{SlotCell}

-- the number, where it is below the other
abbrev pub below : ℕ → ℕ → Option ℕ
below i n = if nat_lt i n then Some i else None

-- of n cells that were never used, the one of this number: linked to the next
abbrev pub fresh_cell : ℕ → ℕ → SlotCell
fresh_cell n i = record { uses = 0; generation = 0; standing = Free; link = below (i + 1) n }

-- the first k of n such cells
abbrev pub fresh_cells : ℕ → ℕ → List SlotCell
fresh_cells n k = map (fresh_cell n) (range_with_len 0 k)
