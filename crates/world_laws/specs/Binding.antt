-- Which maps a program is bound to.
use Rattle.std.specs.Prelude.{◌≡◌, ℕ, List, map, Some, slice_get}
use Rattle.bpf_model.specs.declared.limits.MapShape.{MapShape}

-- The numbers of a program's list are those of maps which are there, and which have the shapes that
-- it was verified for, one after another: among maps of these shapes. So no map is missing, none
-- has another shape, and the counts agree.
abbrev pub IsBoundTo : List MapShape → List MapShape → List ℕ → Type 0
IsBoundTo shapes asked numbers = map (slice_get shapes) numbers ≡ map Some asked
