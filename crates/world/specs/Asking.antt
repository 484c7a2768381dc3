-- What a world is asked outside of events.
use Rattle.std.specs.Prelude.{◌≡◌, ℕ, List, Option, Some, None, is_some, count_by}
use Rattle.std.specs.List.{sum_by}
use Rattle.hash_index.specs.Order.{NoneAbove}
use Rattle.bpf_model.specs.View.{MapView, WorldView}
use Rattle.map_kinds.specs.Counting.{linked_in, unlinked_in, worn_in}
use Rattle.map_kinds.specs.Shown.{IsNext}
use Rattle.bpf_model.specs.declared.stat.Stat.{Stat}
use Rattle.verifier.specs.Checked.{Checked}

-- The counts of a world.
abbrev pub stat_of : WorldView → Stat
stat_of w = record {
  linked = sum_by linked_in w.maps;
  unlinked = sum_by unlinked_in w.maps;
  given = w.given;
  worn = sum_by worn_in w.maps;
  runs = count_by is_some w.runs;
  «open» = count_by (λ b. b) w.opened;
}

-- One program, as far as it is verified: of the same instructions, for maps of the same shapes and
-- contexts of the same length.
abbrev pub IsSameProgram : Checked → Checked → Type 0
IsSameProgram a b = (a.program ≡ b.program) × (a.shapes ≡ b.shapes) × (a.ctx_len ≡ b.ctx_len)

-- an element of the map, if there is one, with the least key above the bound: key and value
abbrev pub IsFound : Option MapView → Option (List ℕ) → List ℕ → List ℕ → Type 0
IsFound None bound key value = ⊥
IsFound (Some v) bound key value = IsNext v bound key value

-- there is no such map, or no key of it is above the bound
abbrev pub HasNone : Option MapView → Option (List ℕ) → Type 0
HasNone None bound = Unit {0}
HasNone (Some v) bound = NoneAbove v.index bound
