-- Maps of which a run tells nothing but its own: in each of them an element for each map slot that has a word, and all
-- of them guarded by the run's section. Of keys and values nothing is known, so that they may as well be zeros.
use Rattle.std.specs.Prelude.{◌≡◌, ℕ, ◌+◌, ◌*◌, ◌/◌, ◌%◌, ◌^◌, ◌<◌, List, [], ◌∷◌, length, map}
use Rattle.std.specs.Prelude.{replicate, Option, Some, None, slice_get, pos, ◌⊎◌}
use Rattle.std.specs.List.{range_with_len}
use Rattle.bpf_model.specs.declared.call.Helper.TheVariants.{Lookup}
use Rattle.bpf_model.specs.declared.limits.MapShape.{MapShape}
use Rattle.bpf_model.specs.declared.limits.TheConstants.{MAX_MAPS}
use Rattle.bpf_model.specs.declared.value.Value.{Value}
use Rattle.bpf_model.specs.declared.value.Value.TheVariants.{Nothing, Number, Pointer}
use Rattle.bpf_model.specs.declared.value.Reference.TheVariants.{Elem}
use Rattle.bpf_model.specs.Element.{Element, Unlinked}
use Rattle.bpf_model.specs.MapState.{Store, new_map}
use Rattle.bpf_model.specs.Request.{Request, LoadElement, StoreElement, CallHelper, Enter, Leave}
use Rattle.bpf_model.specs.Request.{MapArgument}
use Rattle.bpf_model.specs.Section.{Section}
use Rattle.bpf_model.specs.Word.{most_map_slots, slot_base}

-- as many regions of map slots as there are among the words
abbrev pub regions : ℕ
regions = most_map_slots * MAX_MAPS

-- the word of the first byte of such a region
abbrev pub region_word : ℕ → ℕ
region_word region = slot_base 0 region

-- Element n lies in this map and in this region; and the other way round. So a word may stand for an element of any
-- map.
abbrev pub map_of : ℕ → ℕ
map_of n = n / regions

abbrev pub region_of : ℕ → ℕ
region_of n = n % regions

abbrev pub element_in_region : ℕ → ℕ → ℕ
element_in_region map region = regions * map + region

abbrev pub key_length : Option MapShape → ℕ
key_length None = 0
key_length (Some shape) = shape.key_len

abbrev pub value_length : Option MapShape → ℕ
value_length None = 0
value_length (Some shape) = shape.value_len

abbrev pub element_of : List MapShape → Section → ℕ → Element
element_of around section n = record {
  map = map_of n;
  key = replicate (key_length (slice_get around (map_of n))) 0;
  value = replicate (value_length (slice_get around (map_of n))) 0;
  uses = 1;
  life = Unlinked (section ∷ []);
}

abbrev pub elements_by : ℕ → (ℕ → Element) → List Element
elements_by count f = map f (range_with_len 0 count)

abbrev pub births : List MapShape → ℕ
births around = regions * length around

abbrev pub elements_around : List MapShape → Section → List Element
elements_around around section = elements_by (births around) (element_of around section)

abbrev pub store_of : List MapShape → List Element → Store
store_of around es = record { elements = es; maps = map new_map around }

-- What may be replied to a request of a run whose program's list is bound to these maps: to a load any number of its
-- width; to a lookup null, or an element of its map in any region; to a store, a lock and an unlock nothing.
abbrev pub MayReply : List ℕ → Request → Value → Type 0
MayReply bound (LoadElement n o width) reply = (x : ℕ) × (x < 256 ^ width) × (reply ≡ Number x)
MayReply bound (StoreElement n o width v) reply = reply ≡ Nothing
MayReply bound (CallHelper Lookup (MapArgument i ∷ more)) reply =
    (reply ≡ Number 0)
    ⊎ ((map : ℕ) × (region : ℕ) × (slice_get bound i ≡ Some map) × (region < regions)
    × (reply ≡ Pointer (Elem (element_in_region map region) (pos 0))))
MayReply bound (CallHelper helper arguments) reply = ⊥
MayReply bound Enter reply = reply ≡ Nothing
MayReply bound Leave reply = reply ≡ Nothing
