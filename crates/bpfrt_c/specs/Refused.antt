-- How C is told why no program is opened.
use Rattle.std.specs.Prelude.{◌≡◌, ◌⊎◌, ℕ, List, ◌==◌, ◌&&◌, nat_le, ℤ, pos, neg_ℤ, Option, Some, None, if◌then◌else◌}
use Rattle.bpf_model.specs.declared.limits.MapShape.{MapShape}
use Rattle.host_programs.specs.Numbers.{open_fault_number, open_fault_place}
use Rattle.host_programs.specs.Refusals.{IsBytesFault}
use Rattle.host_programs.specs.declared.fault.OpenFault.{OpenFault}
use Rattle.host_programs.specs.declared.fault.Place.{Place}
use Rattle.host_programs.specs.declared.fault.Place.TheVariants.{Slot, Line, Instruction, Map}
use Rattle.bpfrt_c.specs.Shapes.{AreShapesInC, IsShapesFault}
use Rattle.bpfrt_c.specs.declared.refusal.Refusal.{Refusal}
use Rattle.bpfrt_c.specs.declared.shape.Shape.{Shape}
use Rattle.bpfrt_c.specs.declared.shape.ShapesFault.TheVariants.{Fault}

-- 0 where the fault is in no one place
abbrev pub place_kind : Option Place → ℕ
place_kind None = 0
place_kind (Some (Slot at)) = 1
place_kind (Some (Line at)) = 2
place_kind (Some (Instruction at)) = 3
place_kind (Some (Map at)) = 4

abbrev pub place_number : Option Place → ℕ
place_number None = 0
place_number (Some (Slot at)) = at
place_number (Some (Line at)) = at
place_number (Some (Instruction at)) = at
place_number (Some (Map at)) = at

-- The number of errno's for a fault: -ENOMEM, -EACCES of the verifier's, else -EINVAL.
abbrev pub error_of : ℕ → ℤ
error_of code =
    if code == 13
    then neg_ℤ (pos 12)
    else (if nat_le 20 code && nat_le code 39 then neg_ℤ (pos 13) else neg_ℤ (pos 22))

-- C is told of a fault for which this holds: its number, its place, and its number of errno's.
abbrev pub Tells : (OpenFault → Type 0) → Refusal → ℤ → Type 0
Tells IsFault why number = (fault : OpenFault) × IsFault fault × (why.code ≡ open_fault_number fault)
    × (why.kind ≡ place_kind (open_fault_place fault)) × (why.at ≡ place_number (open_fault_place fault))
    × (number ≡ error_of (open_fault_number fault))

-- why no program of these bytes is opened, for maps of the shapes that C wrote
abbrev pub IsBytesFaultInC : List ℕ → ℕ → List Shape → OpenFault → Type 0
IsBytesFaultInC bytes ctx_len written fault = IsShapesFault written (Fault fault)
    ⊎ ((shapes : List MapShape) × AreShapesInC written shapes × IsBytesFault bytes ctx_len shapes fault)
