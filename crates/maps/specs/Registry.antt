-- The maps of a registry, in order of creation, each with its name.
use Rattle.std.specs.Prelude.{ℕ, Bool, true, false, not, ◌&&◌, ◌||◌, ◌==◌, if◌then◌else◌, List, []}
use Rattle.std.specs.Prelude.{length, Option, Some, None, slice_get, bytes_eq, nat_le, refl}
use Rattle.std.specs.Char.{is_ascii_digit, is_ascii_lowercase}
use Rattle.std.specs.Int.{is_in_range}
use Rattle.std.specs.List.{list_any, list_all}
use Rattle.bpf_model.specs.declared.limits.MapKind.{MapKind}
use Rattle.bpf_model.specs.declared.limits.MapKind.TheVariants.{Hash, Array}
use Rattle.bpf_model.specs.declared.limits.MapShape.{MapShape}
use Rattle.bpf_model.specs.declared.limits.TheConstants.{MAX_MAPS, KEY_BYTES, VALUE_BYTES}
use Rattle.bpf_model.specs.declared.limits.TheConstants.{MAX_ENTRIES, MAX_SPARE, MAX_REUSE}
use Rattle.bpf_model.specs.declared.limits.TheConstants.{INDEX_BYTES}
use Rattle.bpf_model.specs.View.{MapView}
use Rattle.bpf_model.specs.Codes.{numbers_code}
use Rattle.model_laws.specs.Codes.{view_code}
use Rattle.std.specs.Coded.{Coded, code_by, coded×, coded_list}
use Rattle.maps.specs.declared.fault.MapFault.{MapFault}
use Rattle.maps.specs.declared.fault.MapFault.TheVariants.{BadName, NameTaken, BadShape, TooMany}
use Rattle.maps.specs.declared.fault.MapFault.TheVariants.{Memory}

pub record RegistryView : Type 0 where
  pub names : List (List ℕ)
  pub maps : List MapView

abbrev pub no_maps : RegistryView
no_maps = record { names = []; maps = [] }

abbrev pub registry_code : Coded RegistryView
registry_code = code_by (List (List ℕ) × List MapView)
    (coded× (coded_list numbers_code) (coded_list view_code))
    (λ r. (r.names, r.maps))
    (λ p. record { names = p.0; maps = p.1 })
    (λ _. refl)

-- `a` to `z`, a digit or `_`
abbrev pub is_name_character : ℕ → Bool
is_name_character c = is_ascii_lowercase c || (is_ascii_digit c || (c == 95))

abbrev pub begins_with_letter : Option ℕ → Bool
begins_with_letter None = false
begins_with_letter (Some c) = is_ascii_lowercase c

-- the most bytes of a name
abbrev pub longest_name : ℕ
longest_name = 32

-- A name of a map: 1 to `longest_name` of these characters, the first a letter.
abbrev pub is_name : List ℕ → Bool
is_name name = begins_with_letter (slice_get name 0)
    && (nat_le (length name) longest_name && list_all is_name_character name)

-- whether the numbers of a shape are those of this kind: an array has keys of INDEX_BYTES, no
-- further map slots, and uses each once
abbrev pub is_of_kind : MapKind → MapShape → Bool
is_of_kind Hash shape = true
is_of_kind Array shape =
    (shape.key_len == INDEX_BYTES) && ((shape.spare == 0) && (shape.reuse_limit == 1))

-- whether a map may have the shape
abbrev pub is_shape : MapShape → Bool
is_shape shape =
    is_in_range 1 KEY_BYTES shape.key_len && (is_in_range 1 VALUE_BYTES shape.value_len
    && (is_in_range 1 MAX_ENTRIES shape.entries
    && (nat_le shape.spare MAX_SPARE && (is_in_range 1 MAX_REUSE shape.reuse_limit
    && is_of_kind shape.kind shape))))

abbrev pub has_name : RegistryView → List ℕ → Bool
has_name r name = list_any (bytes_eq name) r.names

-- The first of the tests of a new map that fails.
abbrev pub creation_fault : RegistryView → List ℕ → MapShape → Option MapFault
creation_fault r name shape =
    if not (is_name name) then Some BadName else
    if has_name r name then Some NameTaken else
    if not (is_shape shape) then Some BadShape else
    if nat_le MAX_MAPS (length r.maps) then Some TooMany else
    None

abbrev pub map_fault_number : MapFault → ℕ
map_fault_number BadName = 50
map_fault_number NameTaken = 51
map_fault_number BadShape = 52
map_fault_number TooMany = 53
map_fault_number Memory = 13
