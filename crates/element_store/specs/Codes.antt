-- The code of an arena's state.
use Rattle.std.specs.Prelude.{ℕ, Bool, List, Option, refl}
use Rattle.std.specs.Coded.{Coded, code_by, coded×, coded_ℕ, coded_list, coded_option}
use Rattle.bpf_model.specs.Codes.{flags_code, numbers_code, slot_code}
use Rattle.bpf_model.specs.View.{SlotView}
use Rattle.element_store.specs.State.{ArenaState}

-- the generations, the lengths of keys and values, and how often a slot may be used
abbrev pub Bounds : Type 0
Bounds = List ℕ × (ℕ × (ℕ × ℕ))

abbrev pub bounds_code : Coded Bounds
bounds_code = coded× numbers_code (coded× coded_ℕ (coded× coded_ℕ coded_ℕ))

abbrev pub links_code : Coded (List (Option ℕ))
links_code = coded_list (coded_option coded_ℕ)

abbrev pub arena_code : Coded ArenaState
arena_code = code_by (List SlotView × (List ℕ × (List Bool × (List (Option ℕ) × Bounds))))
    (coded× (coded_list slot_code)
    (coded× numbers_code (coded× flags_code (coded× links_code bounds_code))))
    (λ a. (
      a.slots,
      (
        a.free,
        (a.worn, (a.links, (a.generations, (a.key_len, (a.value_len, a.limit))))),
      ),
    ))
    (λ p. record {
      slots = p.0;
      free = p.1.0;
      worn = p.1.1.0;
      links = p.1.1.1.0;
      generations = p.1.1.1.1.0;
      key_len = p.1.1.1.1.1.0;
      value_len = p.1.1.1.1.1.1.0;
      limit = p.1.1.1.1.1.1.1;
    })
    (λ _. refl)
