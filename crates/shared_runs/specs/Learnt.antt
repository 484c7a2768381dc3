-- The elements that a run may access over a table: those that its seat has learnt in the section that is open. Nothing is
-- known of what stands in them.
use Rattle.std.specs.Prelude.{ℕ, List, [], ◌∷◌, Bool, true, false, replicate, slice_get}
use Rattle.bpf_model.specs.declared.limits.MapShape.{MapShape}
use Rattle.bpf_model.specs.Element.{Element, Life, Reclaimed, Unlinked}
use Rattle.bpf_model.specs.Section.{Section}
use Rattle.world_laws.specs.Around.{births, elements_by, key_length, map_of, region_of, value_length}

-- an element that was learnt is guarded by the section, and any other is as good as reclaimed
abbrev pub life_of : Bool → Section → Life
life_of true s = Unlinked (s ∷ [])
life_of false s = Reclaimed

abbrev pub learnt_element : List MapShape → Section → (ℕ → Bool) → ℕ → Element
learnt_element shapes s learnt n = record {
  map = map_of n;
  key = replicate (key_length (slice_get shapes (map_of n))) 0;
  value = replicate (value_length (slice_get shapes (map_of n))) 0;
  uses = 1;
  life = life_of (learnt (region_of n)) s;
}

abbrev pub learnt_elements : List MapShape → Section → (ℕ → Bool) → List Element
learnt_elements shapes s learnt = elements_by (births shapes) (learnt_element shapes s learnt)
