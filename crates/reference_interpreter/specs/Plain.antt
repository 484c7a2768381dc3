-- What a plain run stands for, and what its steps tell.
use Rattle.std.specs.Prelude.{◌≡◌, ℕ, List, slice_index_or, Option, Some, None, ℤ, pos, FitsSigned}
use Rattle.std.specs.Prelude.{Bool, true, false}
use Rattle.std.specs.Int.{w64}
use Rattle.bpf_model.specs.declared.insn.Insn.{Insn}
use Rattle.bpf_model.specs.declared.value.Value.{Value}
use Rattle.bpf_model.specs.declared.value.Value.TheVariants.{Nothing, Number, Pointer}
use Rattle.bpf_model.specs.declared.value.Reference.{Reference}
use Rattle.bpf_model.specs.declared.value.Reference.TheVariants.{Ctx, Frame, MapRef, Elem}
use Rattle.bpf_model.specs.declared.value.Cell.{Cell}
use Rattle.bpf_model.specs.declared.value.Cell.TheVariants as cells
use Rattle.bpf_model.specs.Step.{State, Environment, Outcome, Moves, Exits, after, frame_after}
use Rattle.bpf_model.specs.Step.{insn_at}
use Rattle.reference_interpreter.specs.declared.plain_run.PlainRun.{PlainRun}
use Rattle.reference_interpreter.specs.declared.plain_run.Progress.{Progress}
use Rattle.reference_interpreter.specs.declared.plain_run.Progress.TheVariants.{Moved, Exited, Stuck}
use Rattle.reference_interpreter.specs.declared.plain_run.Progress.TheVariants.{OutOfRange}
use Rattle.reference_interpreter.specs.declared.value.Computed.{Computed}
use Rattle.reference_interpreter.specs.declared.value.Computed.TheVariants as computed

-- the cells of a list, by their offset; past its end they are unwritten
abbrev pub cells_of : List Cell → ℕ → Cell
cells_of frame k = slice_index_or frame k cells.Unwritten

-- a store was made, or could not be
abbrev pub WritesFrame : ℕ → ℕ → Value → List Cell → Bool → List Cell → Type 0
WritesFrame at width v old true new = frame_after at width v (cells_of old) ≡ Some (cells_of new)
WritesFrame at width v old false new = (frame_after at width v (cells_of old) ≡ None) × (new ≡ old)

-- the state that a run stands for
abbrev pub plain_state_of : PlainRun → State
plain_state_of run = record {
  regs = λ r. slice_index_or run.regs r Nothing;
  frame = λ k. cells_of run.frame k;
  place = run.place;
}

-- the offset of a reference; 0 for a map, which has none
abbrev pub pointed_offset : Reference → ℤ
pointed_offset (Ctx o) = o
pointed_offset (Frame o) = o
pointed_offset (MapRef m) = pos 0
pointed_offset (Elem n o) = o

-- a reference whose offset lies outside of 64 bits
abbrev pub IsFar : Value → Type 0
IsFar Nothing = ⊥
IsFar (Number n) = ⊥
IsFar (Pointer r) = FitsSigned w64 (pointed_offset r) → ⊥

-- the sum of an offset and a number, if it lies inside of 64 bits
abbrev pub IsSum : ℤ → Option ℤ → Type 0
IsSum z None = FitsSigned w64 z → ⊥
IsSum z (Some s) = s ≡ z

-- a value was computed, or there is none, or one that is far
abbrev pub IsComputed : Option Value → Computed → Type 0
IsComputed o (computed.Known v) = o ≡ Some v
IsComputed o computed.Stuck = o ≡ None
IsComputed o computed.OutOfRange = (v : Value) × (o ≡ Some v) × IsFar v

-- The outcome is that of the answer and the run's state after it; only a run that moves changes.
abbrev pub Comes : Option Outcome → Progress → PlainRun → PlainRun → Type 0
Comes o Moved old new = o ≡ Some (Moves (plain_state_of new))
Comes o (Exited n) old new = (o ≡ Some (Exits n)) × (new ≡ old)
Comes o Stuck old new = (o ≡ None) × (new ≡ old)
Comes o OutOfRange old new =
    (next : State) × (o ≡ Some (Moves next)) × (r : ℕ) × IsFar (next.regs r) × (new ≡ old)

-- the answer and the new state are those of the instruction
pub record PerformsInsn (i : Insn) (env : Environment) (old : PlainRun) (answer : Progress)
    (new : PlainRun) : Type 0 where
  pub comes : Comes (after i env (plain_state_of old)) answer old new

-- A run by itself steps by the instruction that begins at its place; where none begins, or that
-- does nothing by itself, it is stuck.
abbrev pub StepsByItself : List Insn → Environment → State → Outcome → Type 0
StepsByItself program env m out =
    (i : Insn) × (insn_at program m.place ≡ Some i) × (after i env m ≡ Some out)

-- The answer tells the step that the run makes by itself: `Stuck` that it has none, and
-- `OutOfRange` that it would lead to a far reference; only a run that moves changes.
abbrev pub TellsStep : List Insn → Environment → PlainRun → Progress → PlainRun → Type 0
TellsStep program env old Moved new =
    StepsByItself program env (plain_state_of old) (Moves (plain_state_of new))
TellsStep program env old (Exited n) new =
    StepsByItself program env (plain_state_of old) (Exits n) × (new ≡ old)
TellsStep program env old Stuck new =
    ((out : Outcome) → StepsByItself program env (plain_state_of old) out → ⊥) × (new ≡ old)
TellsStep program env old OutOfRange new =
    (next : State) × StepsByItself program env (plain_state_of old) (Moves next) × (r : ℕ)
    × IsFar (next.regs r) × (new ≡ old)
