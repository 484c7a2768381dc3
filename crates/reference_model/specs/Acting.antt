-- What the steps of a run tell, by what they answer.
use Rattle.std.specs.Prelude.{◌≡◌, ℕ, List, Option, Some, None, Result, ℤ}
use Rattle.bpf_model.specs.declared.insn.Insn.{Insn}
use Rattle.bpf_model.specs.declared.insn.Insn.TheVariants.{Call, Load, LoadSigned, Store}
use Rattle.bpf_model.specs.declared.insn.CallKind.{CallKind}
use Rattle.bpf_model.specs.declared.value.Value.{Value}
use Rattle.bpf_model.specs.declared.value.Value.TheVariants.{Nothing, Number, Pointer}
use Rattle.bpf_model.specs.declared.value.Reference.TheVariants.{Ctx, Frame, MapRef, Elem}
use Rattle.bpf_model.specs.declared.event.Answer.{Answer}
use Rattle.bpf_model.specs.declared.event.Answer.TheVariants.{Moved}
use Rattle.bpf_model.specs.declared.call.KernelFunction.{KernelFunction}
use Rattle.bpf_model.specs.Element.{Element}
use Rattle.bpf_model.specs.Section.{Section}
use Rattle.bpf_model.specs.Machine as machine
use Rattle.bpf_model.specs.MapState as maps
use Rattle.bpf_model.specs.declared.opcode.SignedWidth.{SignedWidth}
use Rattle.bpf_model.specs.Value.{◌>>=◌}
use Rattle.bpf_model.specs.Access.{byte_count, unsigned_width}
use Rattle.bpf_model.specs.Arithmetic.{loaded_signed}
use Rattle.bpf_model.specs.Step.{State, Environment, Outcome, Moves, Exits, forward, sets}
use Rattle.model_laws.specs.ByKind.{StepsByKind, element_load, KernelStep, Acts, ActStep}
use Rattle.bpf_model.specs.MachineStep.{InsnStep}
use Rattle.bpf_model.specs.MachineStep.{RunStep}
use Rattle.reference_interpreter.specs.declared.plain_run.PlainRun.{PlainRun}
use Rattle.reference_interpreter.specs.declared.plain_run.Progress.{Progress}
use Rattle.reference_interpreter.specs.declared.plain_run.Progress.TheVariants as progress
use Rattle.reference_interpreter.specs.Plain.{plain_state_of}
use Rattle.reference_store.specs.declared.fault.ModelFault.{ModelFault}
use Rattle.reference_store.specs.Telling.{TellsResult}

-- the element that a value refers to, and the offset there
abbrev pub element_in : Value → Option (ℕ × ℤ)
element_in Nothing = None
element_in (Number n) = None
element_in (Pointer (Ctx o)) = None
element_in (Pointer (Frame o)) = None
element_in (Pointer (MapRef m)) = None
element_in (Pointer (Elem n o)) = Some (n, o)

-- the element that the base register of a load or a store refers to, and the offset there
abbrev pub base_element : Insn → State → Option (ℕ × ℤ)
base_element (Load width dst src offset) m = element_in (m.regs src)
base_element (LoadSigned width dst src offset) m = element_in (m.regs src)
base_element (Store width dst offset src) m = element_in (m.regs dst)
base_element _ m = None

-- what a load leaves, and one that extends a sign
abbrev pub load_outcome : List Element → ℕ → ℤ → Value → ℕ → State → Option Outcome
load_outcome es width offset base dst m =
    element_load es width offset base >>= λ n. sets 1 dst (Number n) m

abbrev pub extended_outcome : List Element → SignedWidth → ℤ → Value → ℕ → State → Option Outcome
extended_outcome es width offset base dst m =
    element_load es (byte_count (unsigned_width width)) offset base
    >>= λ n. sets 1 dst (Number (loaded_signed width n)) m

-- a store to an element was made, or could not be
abbrev pub StoresAs : Option (List Element) → PlainRun → Progress → List Element → PlainRun → Type 0
StoresAs o old progress.Moved new_elements new =
    (o ≡ Some new_elements) × (plain_state_of new ≡ forward 1 (plain_state_of old))
StoresAs o old progress.Stuck new_elements new = o ≡ None
StoresAs o old _ new_elements new = ⊥

-- An instruction other than a call was a step, or there is none.
abbrev pub ActsAs : Insn → Environment → List Element → PlainRun → Progress → List Element →
    PlainRun → Type 0
ActsAs i env es old progress.Moved new_elements new =
    Acts i env es (plain_state_of old) (Moves (plain_state_of new)) new_elements
ActsAs i env es old (progress.Exited n) new_elements new =
    Acts i env es (plain_state_of old) (Exits n) new_elements
    × (plain_state_of new ≡ plain_state_of old)
ActsAs i env es old progress.Stuck new_elements new =
    (out : Outcome) (more : List Element) → Acts i env es (plain_state_of old) out more → ⊥
ActsAs i env es old progress.OutOfRange new_elements new = Unit {0}

-- the call that an instruction is
abbrev pub call_in : Insn → Option (CallKind × ℤ)
call_in (Call kind imm) = Some (kind, imm)
call_in _ = None

-- a lock or an unlock was made, or could not be
abbrev pub KernelsAs : Option KernelFunction → machine.Run → Result Answer ModelFault →
    machine.Run → Type 0
KernelsAs function old answer new =
    TellsResult (λ a. KernelStep function old new × (a ≡ Moved)) ((q : machine.Run) →
    KernelStep function old q → ⊥) answer

-- an instruction was a step of its kind, or there is none
abbrev pub KindStepsAs : Insn → maps.Store → List Section → machine.Run → Result Answer ModelFault →
    maps.Store → machine.Run → Type 0
KindStepsAs i s opened run answer new_store new_run =
    TellsResult (λ a. StepsByKind i s opened run a new_store new_run)
    ((a : Answer) (t : maps.Store) (q : machine.Run) → StepsByKind i s opened run a t q → ⊥) answer

-- an instruction was a step of the run, or there is none
abbrev pub InsnStepsAs : Insn → maps.Store → List Section → machine.Run → Result Answer ModelFault →
    maps.Store → machine.Run → Type 0
InsnStepsAs i s opened run answer new_store new_run =
    TellsResult (λ a. InsnStep i s opened run a new_store new_run)
    ((a : Answer) (t : maps.Store) (q : machine.Run) → InsnStep i s opened run a t q → ⊥) answer

-- the run made a step, or has none
abbrev pub RunStepsAs : maps.Store → List Section → machine.Run → Result Answer ModelFault →
    maps.Store → machine.Run → Type 0
RunStepsAs s opened run answer new_store new_run =
    TellsResult (λ a. RunStep s opened run a new_store new_run)
    ((a : Answer) (t : maps.Store) (q : machine.Run) → RunStep s opened run a t q → ⊥) answer

-- an instruction other than a call was a step of the run, or there is none
abbrev pub AloneAs : Insn → maps.Store → machine.Run → Result Answer ModelFault → maps.Store →
    machine.Run → Type 0
AloneAs i s run answer new_store new_run =
    TellsResult (λ a. ActStep i s run a new_store new_run)
    ((a : Answer) (t : maps.Store) (q : machine.Run) → ActStep i s run a t q → ⊥) answer

-- the run in a run slot makes a step; a free run slot has none
abbrev pub SlotStep : maps.Store → List Section → Option machine.Run → Answer → maps.Store →
    Option machine.Run → Type 0
SlotStep s opened None answer new_store new = ⊥
SlotStep s opened (Some run) answer new_store new =
    (new_run : machine.Run) × (new ≡ Some new_run) × RunStep s opened run answer new_store new_run

-- the run in a run slot made a step, or has none
abbrev pub SlotStepsAs : maps.Store → List Section → Option machine.Run → Result Answer ModelFault →
    maps.Store → Option machine.Run → Type 0
SlotStepsAs s opened old answer new_store new =
    TellsResult (λ a. SlotStep s opened old a new_store new)
    ((a : Answer) (t : maps.Store) (q : Option machine.Run)
    → SlotStep s opened old a t q → ⊥) answer
