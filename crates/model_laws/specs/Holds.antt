-- A property of each reference that a value, a cell of the frame, or a run's state holds.
use Rattle.std.specs.Prelude.{ℕ}
use Rattle.bpf_model.specs.declared.value.Value.{Value}
use Rattle.bpf_model.specs.declared.value.Value.TheVariants.{Nothing, Number, Pointer}
use Rattle.bpf_model.specs.declared.value.Reference.{Reference}
use Rattle.bpf_model.specs.declared.value.Cell.{Cell}
use Rattle.bpf_model.specs.declared.value.Cell.TheVariants.{Unwritten, Byte, Part}
use Rattle.bpf_model.specs.Step.{State}

abbrev pub HoldsValue : (Reference → Type 0) → Value → Type 0
HoldsValue P Nothing = Unit {0}
HoldsValue P (Number n) = Unit {0}
HoldsValue P (Pointer r) = P r

abbrev pub HoldsCell : (Reference → Type 0) → Cell → Type 0
HoldsCell P Unwritten = Unit {0}
HoldsCell P (Byte b) = Unit {0}
HoldsCell P (Part i r) = P r

-- a property of each reference in the registers and in the cells of the frame
abbrev pub HoldsState : (Reference → Type 0) → State → Type 0
HoldsState P m = ((r : ℕ) → HoldsValue P (m.regs r)) × ((k : ℕ) → HoldsCell P (m.frame k))
