-- What is counted of a map, and of all maps.
use Rattle.std.specs.Prelude.{◌≡◌, ℕ, ◌+◌, ◌-◌, ◌≤◌, List, length, Option, Some, None}
use Rattle.std.specs.List.{sum_by}
use Rattle.std.specs.FinMap.{len}
use Rattle.bpf_model.specs.declared.event.Given.{Given}
use Rattle.bpf_model.specs.declared.event.Given.TheVariants.{Free, Worn}
use Rattle.bpf_model.specs.declared.limits.MapShape.{MapShape}
use Rattle.bpf_model.specs.View.{MapView}
use Rattle.map_kinds.specs.declared.counts.Counts.{Counts}
use Rattle.map_kinds.specs.Parted.{PartsView}
use Rattle.map_kinds.specs.Shown.{map_view, IsMap}

abbrev pub linked_in : MapView → ℕ
linked_in v = len v.index

-- the elements of the three lists
abbrev pub unlinked_in : MapView → ℕ
unlinked_in v = length v.next + length v.waiting + length v.ready

abbrev pub worn_in : MapView → ℕ
worn_in v = v.worn

abbrev pub counts_of : MapView → Counts
counts_of v = record { linked = linked_in v; unlinked = unlinked_in v; worn = worn_in v }

-- the sums over all maps
abbrev pub counts_of_all : List MapView → Counts
counts_of_all vs = record {
  linked = sum_by linked_in vs;
  unlinked = sum_by unlinked_in vs;
  worn = sum_by worn_in vs;
}

-- a key is linked that had no element, or one that is unlinked now
abbrev pub counts_linked : Option ℕ → Counts → Counts
counts_linked None c = record { linked = c.linked + 1; unlinked = c.unlinked; worn = c.worn }
counts_linked (Some i) c = record { linked = c.linked; unlinked = c.unlinked + 1; worn = c.worn }

-- an element was reclaimed
abbrev pub counts_reaped : Given → Counts → Counts
counts_reaped Free c = record { linked = c.linked; unlinked = c.unlinked - 1; worn = c.worn }
counts_reaped Worn c = record { linked = c.linked; unlinked = c.unlinked - 1; worn = c.worn + 1 }

-- The counts are those of the map, which has no more linked elements than its shape allows.
pub record IsCounted (shape : MapShape) (p : PartsView) (c : Counts) : Type 0 where
  pub kept : IsMap shape p c.linked
  pub few : c.linked ≤ shape.entries
  pub unlinked : c.unlinked ≡ unlinked_in (map_view shape p)
  pub worn : c.worn ≡ worn_in (map_view shape p)
