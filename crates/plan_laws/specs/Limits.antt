-- References to locations inside the limits, of which each near one has a word of its own.
use Rattle.std.specs.Prelude.{◌≡◌, ℕ, ◌<◌, List, Some, None, slice_get, slice_index}
use Rattle.bpf_model.specs.declared.value.Reference.{Reference}
use Rattle.bpf_model.specs.declared.value.Reference.TheVariants.{Ctx, Frame, MapRef, Elem}
use Rattle.bpf_model.specs.declared.limits.TheConstants.{MAX_MAPS}
use Rattle.bpf_model.specs.Element.{Element}
use Rattle.bpf_model.specs.Word.{map_in, most_map_slots}
use Rattle.bpf_model.specs.Machine.{Run, Machine, run_at}
use Rattle.plan_laws.specs.Describes.{AreNear}

-- a map below the most maps; an element in a map slot below the most map slots
abbrev pub IsWithinLimits : List ℕ → List Element → Reference → Type 0
IsWithinLimits slots es (Ctx o) = Unit {0}
IsWithinLimits slots es (Frame o) = Unit {0}
IsWithinLimits slots es (MapRef map) = map < MAX_MAPS
IsWithinLimits slots es (Elem n o) =
    (map_in (slice_get es n) < MAX_MAPS) × (slice_index slots n < most_map_slots)

-- all references of each run that hasn't ended are near
abbrev pub IsNearMachine : Machine → Type 0
IsNearMachine m = (r : ℕ) (run : Run) → run_at m.runs r ≡ Some run → run.exit ≡ None →
    AreNear run.state.regs run.state.frame
