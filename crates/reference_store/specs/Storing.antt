-- Stores to elements, by whether they could be made.
use Rattle.std.specs.Prelude.{◌≡◌, ℕ, ℤ, Bool, true, false, length, Option, Some, None}
use Rattle.bpf_model.specs.Value.{◌>>=◌}
use Rattle.bpf_model.specs.Access.{region_offset}
use Rattle.bpf_model.specs.Element.{Element, unless_reclaimed, with_value}
use Rattle.bpf_model.specs.Access.{with_bytes}

-- what there is after a store, and whether one could be made
abbrev pub StoresTo : {A : Type 0} → Option A → Bool → A → Type 0
StoresTo o true new = o ≡ Some new
StoresTo o false new = o ≡ None

-- the element after a store of a number, where one may be made
abbrev pub saved : ℕ → ℤ → ℕ → Element → Option Element
saved width offset v e =
    unless_reclaimed e >>= λ e. region_offset (length e.value) width offset
    >>= λ at. Some (with_value (with_bytes at width v e.value) e)

abbrev pub SavesTo : Element → ℕ → ℤ → ℕ → Bool → Element → Type 0
SavesTo old width offset v made new = StoresTo (saved width offset v old) made new
