-- Codes of what a map slot keeps: lists, and pairs of them.
use Rattle.std.specs.Prelude.{ℕ, Bool, List, refl}
use Rattle.std.specs.Coded.{Coded, code_by, coded×, coded_ℕ, coded_bool, coded_list}
use Rattle.bpf_model.specs.View.{SlotView}

abbrev pub numbers_code : Coded (List ℕ)
numbers_code = coded_list coded_ℕ

abbrev pub flags_code : Coded (List Bool)
flags_code = coded_list coded_bool

abbrev pub slot_code : Coded SlotView
slot_code = code_by (List ℕ × (List ℕ × ℕ))
    (coded× numbers_code (coded× numbers_code coded_ℕ))
    (λ s. (s.key, (s.value, s.uses)))
    (λ p. record { key = p.0; value = p.1.0; uses = p.1.1 })
    (λ _. refl)
