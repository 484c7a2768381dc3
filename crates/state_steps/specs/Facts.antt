-- What is known along every path of a plain program: which registers are numbers, which bytes of
-- the frame are written, that r10 is the frame's end, and whether a section is open: in a plain
-- program sections do not nest.
use Rattle.std.specs.Prelude.{◌≡◌, ℕ, ◌⊎◌, pos, Bool, false, if◌then◌else◌}
use Rattle.bpf_model.specs.declared.insn.Insn.{Insn}
use Rattle.bpf_model.specs.declared.insn.Insn.TheVariants.{Exit}
use Rattle.bpf_model.specs.declared.limits.TheConstants.{FRAME_BYTES}
use Rattle.model_laws.specs.Plain.{ReadsRegister, WritesRegister, ReadsByte, WritesByte, IsSimple}
use Rattle.plan_laws.specs.Kinds.{FrameAt, ByteCell, AbsState as Known}
use Rattle.plan_laws.specs.Effects.{HasNumber}

-- a register is a number, a byte of the frame is written, r10 is the frame's end, or a section is
-- open or is not
pub data Fact : Type 0 where
  Register : (r : ℕ) → Fact
  FrameByte : (k : ℕ) → Fact
  FramePointer : Fact
  Section : (inside : Bool) → Fact

-- how many locks are open inside a section that does not nest, and outside
abbrev pub depth_of : Bool → ℕ
depth_of inside = if inside then 1 else 0

abbrev pub FactHolds : Fact → Known → Type 0
FactHolds (Register r) a = HasNumber a r
FactHolds (FrameByte k) a = a.cells k ≡ ByteCell
FactHolds FramePointer a = a.regs 10 ≡ FrameAt (pos FRAME_BYTES)
FactHolds (Section inside) a = a.depth ≡ depth_of inside

-- the instruction makes the fact hold
abbrev pub Makes : Insn → Fact → Type 0
Makes i (Register r) = WritesRegister i r
Makes i (FrameByte k) = WritesByte i k
Makes i FramePointer = ⊥
Makes i (Section inside) = ⊥

-- facts stay, and what the instruction makes holds
abbrev pub KeepsFacts : Insn → Known → Known → Type 0
KeepsFacts i a b = (fact : Fact) → FactHolds fact a ⊎ Makes i fact → FactHolds fact b

-- each register that the instruction reads as a number is known to be one
abbrev pub ReadsNumbers : Insn → Known → Type 0
ReadsNumbers i a = (r : ℕ) → ReadsRegister i r → FactHolds (Register r) a

-- a simple instruction that leaves r10 alone, of which all that it reads is known; the exit outside
-- every section
pub record IsReadyInsn (i : Insn) (a : Known) : Type 0 where
  pub simple : IsSimple i
  pub keeps_frame : WritesRegister i 10 → ⊥
  pub frame : FactHolds FramePointer a
  pub outside : i ≡ Exit → FactHolds (Section false) a
  pub registers : ReadsNumbers i a
  pub bytes : (k : ℕ) → ReadsByte i k → FactHolds (FrameByte k) a
