-- What takes the map slots of a map.
use Rattle.std.specs.Prelude.{◌≡◌, ℕ, ◌+◌, not, ◌==◌, ◌&&◌, List, count_by}
use Rattle.bpf_model.specs.Element.{Element, is_reclaimed, linked_count}
use Rattle.bpf_model.specs.Schedule.{is_unlinked}
use Rattle.bpf_model.specs.MapState.{MapState, slots_of_shape}

-- how many elements of the map are unlinked and wait for reclamation
abbrev pub unlinked_count : ℕ → List Element → ℕ
unlinked_count map es = count_by (λ e. is_unlinked e.life && (e.map == map)) es

-- how many elements of the map are not reclaimed: linked or unlinked, each stands in a map slot
abbrev pub kept_count : ℕ → List Element → ℕ
kept_count map es = count_by (λ e. not (is_reclaimed e.life) && (e.map == map)) es

-- how many elements were ever born in the map
abbrev pub born_count : ℕ → List Element → ℕ
born_count map es = count_by (λ e. e.map == map) es

-- The map's linked elements, its unlinked ones and its worn-out map slots are as many as all its
-- map slots.
abbrev pub IsFull : ℕ → List Element → MapState → Type 0
IsFull map es m = linked_count map es + unlinked_count map es + m.worn ≡ slots_of_shape m.shape
