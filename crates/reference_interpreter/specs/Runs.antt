-- Whole runs by themselves.
use Rattle.std.specs.Prelude.{ℕ, suc, ◌<◌, List}
use Rattle.bpf_model.specs.declared.insn.Insn.{Insn}
use Rattle.bpf_model.specs.Step.{State, Environment, Outcome, Moves, Exits}
use Rattle.reference_interpreter.specs.declared.whole.Ending.{Ending}
use Rattle.reference_interpreter.specs.declared.whole.Ending.TheVariants.{Exited, Stuck, OutOfRange}
use Rattle.reference_interpreter.specs.declared.whole.Ending.TheVariants.{Unfinished}
use Rattle.reference_interpreter.specs.Plain.{IsFar, StepsByItself}

-- so many steps lead from one state to another
pub data Walks (program : List Insn) (env : Environment) (from : State) : ℕ → State → Type 0 where
  walks_none : Walks program env from 0 from
  walks_more : (steps : ℕ) (m next : State) → Walks program env from steps m →
      StepsByItself program env m (Moves next) → Walks program env from (suc steps) next

-- How a run that was given so many steps ended: after fewer of them its next step was an exit, was
-- none, or led to a far reference; or it made them all.
abbrev pub EndsAs : List Insn → Environment → State → ℕ → Ending → Type 0
EndsAs program env from limit (Exited n) =
    (steps : ℕ) × (m : State) × (steps < limit) × Walks program env from steps m
    × StepsByItself program env m (Exits n)
EndsAs program env from limit Stuck =
    (steps : ℕ) × (m : State) × (steps < limit) × Walks program env from steps m
    × ((out : Outcome) → StepsByItself program env m out → ⊥)
EndsAs program env from limit OutOfRange =
    (steps : ℕ) × (m : State) × (next : State) × (steps < limit) × Walks program env from steps m
    × StepsByItself program env m (Moves next) × (r : ℕ) × IsFar (next.regs r)
EndsAs program env from limit Unfinished = (m : State) × Walks program env from limit m
