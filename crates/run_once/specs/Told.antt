-- What tells the steps of a run: of each the slot and the text of its instruction on a line, and below it lines behind two blanks.
use Rattle.std.specs.Prelude.{◌≡◌, ℕ, ◌<◌, ◌≤◌, List, [], ◌∷◌, ◌++◌, Bool, true, false, Some, All, codes, slice_get}
use Rattle.std.specs.Fmt.{decimal}
use Rattle.bpf_model.specs.declared.insn.Insn.{Insn}
use Rattle.bpf_model.specs.Machine.{Loaded, Run, Machine, run_at}
use Rattle.bpf_model.specs.Step.{insn_at}
use Rattle.bpf_model.specs.View.{RunView, WorldView}
use Rattle.disasm.specs.Text.{line_of}

-- the slot and the text of an instruction
abbrev pub step_line : ℕ → Insn → List ℕ
step_line slot insn = decimal slot ++ (codes ": " ++ (line_of insn ++ codes "\n"))

-- what stands before a byte that begins a line, and before another
abbrev pub margin : Bool → List ℕ
margin true = codes "  "
margin false = []

-- a byte that is seen: a blank, or a sign of ASCII
abbrev pub IsSeen : ℕ → Type 0
IsSeen c = (32 ≤ c) × (c < 127)

-- lines of such bytes, each behind two blanks
pub data AreIndented : List ℕ → Type 0 where
  none : AreIndented []
  one_more : (above line : List ℕ) → AreIndented above → All IsSeen line →
      AreIndented (above ++ (codes "  " ++ (line ++ codes "\n")))

-- the line of a step, and what stands below it
abbrev pub ShowsStep : ℕ → Insn → List ℕ → Type 0
ShowsStep slot insn text = (below : List ℕ) × AreIndented below × (text ≡ step_line slot insn ++ below)

-- The run in run slot 0 is there, and its next instruction begins at this slot.
pub record HasNext (w : WorldView) (slot : ℕ) (insn : Insn) : Type 0 where
  pub run : RunView
  pub there : slice_get w.runs 0 ≡ Some (Some run)
  pub place : run.place ≡ slot
  pub loaded : Loaded
  pub of : slice_get w.programs run.program ≡ Some loaded
  pub here : insn_at loaded.code slot ≡ Some insn

-- The text tells the step that the run in run slot 0 makes from this state of the machine.
pub record TellsStep (m : Machine) (text : List ℕ) : Type 0 where
  pub run : Run
  pub there : run_at m.runs 0 ≡ Some run
  pub insn : Insn
  pub here : insn_at run.program.code run.state.place ≡ Some insn
  pub shown : ShowsStep run.state.place insn text

-- The text tells, in order, the step that is made from this state and from each of the next ones but the last.
abbrev pub TellsSteps : Machine → List Machine → List ℕ → Type 0
TellsSteps m [] text = text ≡ []
TellsSteps m (next ∷ states) text =
    (first rest : List ℕ) × (text ≡ first ++ rest) × TellsStep m first × TellsSteps next states rest

-- so where that was asked for; else the text is empty
abbrev pub AreTold : Bool → Machine → List Machine → List ℕ → Type 0
AreTold false m states text = text ≡ []
AreTold true m states text = TellsSteps m states text

-- What is written for one step: what tells it, where that was asked for, else nothing.
abbrev pub IsStepTold : Bool → ℕ → Insn → List ℕ → Type 0
IsStepTold false slot insn text = text ≡ []
IsStepTold true slot insn text = ShowsStep slot insn text
