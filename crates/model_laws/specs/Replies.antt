-- What a helper replies, by the kind of its result.
use Rattle.std.specs.Prelude.{◌≡◌, ℕ, pos, ◌⊎◌}
use Rattle.bpf_model.specs.declared.call.ResultKind.{ResultKind}
use Rattle.bpf_model.specs.declared.call.ResultKind.TheVariants.{ElementOrNull, Integer}
use Rattle.bpf_model.specs.declared.value.Value.{Value}
use Rattle.bpf_model.specs.declared.value.Value.TheVariants.{Number, Pointer}
use Rattle.bpf_model.specs.declared.value.Reference.TheVariants.{Elem}

-- the value is a number
abbrev pub IsNumber : Value → Type 0
IsNumber v = (n : ℕ) × (v ≡ Number n)

-- a result of a kind: a reference to an element's value or 0, or a number
abbrev pub IsOfKind : ResultKind → Value → Type 0
IsOfKind ElementOrNull v = (v ≡ Number 0) ⊎ ((n : ℕ) × (v ≡ Pointer (Elem n (pos 0))))
IsOfKind Integer v = IsNumber v
