-- Bytes and numbers within their types. In a definition a byte could be any number.
use Rattle.std.specs.Prelude.{◌≡◌, ℕ, ◌^◌, ◌<◌, List, Some, slice_get}
use Rattle.bpf_model.specs.declared.event.Event.{Event}
use Rattle.bpf_model.specs.declared.event.Event.TheVariants as events
use Rattle.bpf_model.specs.Element.{Element}

-- The numbers of the list are bytes.
abbrev pub AreBytes : List ℕ → Type 0
AreBytes bytes = (k b : ℕ) → slice_get bytes k ≡ Some b → b < 2 ^ 8

-- the value of each of these elements is bytes
abbrev pub AllBytes : List Element → Type 0
AllBytes es = (n : ℕ) (e : Element) → slice_get es n ≡ Some e → AreBytes e.value

-- An event's numbers and bytes are within their types; of lengths nothing is asked. Each value of
-- the Rust type is so (`Event::is_real`).
abbrev pub IsReal : Event → Type 0
IsReal (events.Start prog ctx) = (prog < 2 ^ 64) × AreBytes ctx.items
IsReal (events.Step run) = run < 2 ^ 64
IsReal (events.Update map key value flags) =
    (map < 2 ^ 64) × AreBytes key.items × AreBytes value.items × (flags < 2 ^ 64)
IsReal (events.Delete map key) = (map < 2 ^ 64) × AreBytes key.items
IsReal (events.Read map key) = (map < 2 ^ 64) × AreBytes key.items
IsReal events.Advance = Unit {0}
IsReal events.Reap = Unit {0}
IsReal (events.Drop run) = run < 2 ^ 64

abbrev pub AreReal : List Event → Type 0
AreReal all = (k : ℕ) (event : Event) → slice_get all k ≡ Some event → IsReal event
