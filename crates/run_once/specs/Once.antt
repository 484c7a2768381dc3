-- What one run of a program does, in a world of new maps in which nothing else happens but what
-- comes before it.
use Rattle.std.specs.Prelude.{◌≡◌, ◌≢◌, ℕ, suc, ◌<◌, ◌≤◌, List, ◌∷◌, [], ◌++◌, Some, Ok, Bool, length, replicate, slice_get}
use Rattle.std.specs.List.{range_with_len}
use Rattle.bpf_model.specs.declared.event.Answer.{Answer}
use Rattle.bpf_model.specs.declared.event.Answer.TheVariants as answers
use Rattle.bpf_model.specs.declared.event.Event.{Event}
use Rattle.bpf_model.specs.declared.event.Event.TheVariants.{Start, Step, Update}
use Rattle.bpf_model.specs.declared.insn.Insn.{Insn}
use Rattle.bpf_model.specs.declared.limits.MapShape.{MapShape}
use Rattle.bpf_model.specs.Event.{DoesEvent}
use Rattle.bpf_model.specs.History.{IsHistory, last_of}
use Rattle.bpf_model.specs.Machine.{Loaded, Machine, start_machine}
use Rattle.bpf_model.specs.Refines.{Tracks}
use Rattle.bpf_model.specs.View.{WorldView}
pub use Rattle.machine.specs.declared.outcome.Ended.{Ended}
use Rattle.run_once.specs.declared.once.RunEnd.{RunEnd}
use Rattle.run_once.specs.declared.once.RunEnd.TheVariants.{Exited, NotDone}
use Rattle.run_once.specs.Told.{AreTold}

-- the program, bound to all of so many maps in their order
abbrev pub bound_to_all : ℕ → List Insn → ℕ → Loaded
bound_to_all maps program context_len =
    record { code = program; maps = range_with_len 0 maps; context_len = context_len }

-- the machine's start with new maps of these shapes and this program
abbrev pub start_with : List MapShape → List Insn → List ℕ → Machine
start_with shapes program context =
    start_machine shapes (bound_to_all (length shapes) program (length context) ∷ [])

abbrev pub IsUpdate : Event → Type 0
IsUpdate (Update map key value flags) = Unit {0}
IsUpdate event = ⊥

-- an update that is done
abbrev pub done : Answer
done = answers.Ret (Ok tt)

-- The first of these answers, so many, are that an update is done.
abbrev pub AreDone : ℕ → List Answer → Type 0
AreDone count given = (k : ℕ) → k < count → slice_get given k ≡ Some done

-- program 0 is started on a context
abbrev pub start_on : List ℕ → Event
start_on context = Start 0 (record { items = context })

-- From this state of the machine the run in run slot 0 makes these steps and no others. Each but the last is answered with a move,
-- and the last one with its exit. The text tells them, where that was asked for.
pub record RunsToExit (m : Machine) (e : Ended) (tells : Bool) (text : List ℕ) (last : WorldView) : Type 0 where
  pub moved : ℕ
  pub states : List Machine
  pub count : e.steps ≡ suc moved
  pub history : IsHistory m (replicate e.steps (Step 0)) (replicate moved answers.Moved ++ answers.Exited e.value ∷ []) states
  pub tracked : Tracks last (last_of m states)
  pub told : AreTold tells m states text

-- From this state of the machine the run is started in run slot 0, and makes its steps to its exit.
pub record StartsAndExits (m : Machine) (context : List ℕ) (e : Ended) (tells : Bool) (text : List ℕ) (last : WorldView) : Type 0 where
  pub started : Machine
  pub starts : DoesEvent m (start_on context) (answers.Started 0) started
  pub runs : RunsToExit started e tells text last

-- The machine begins with new maps of these shapes and this program. The updates are done, and then the run is started and exits, by as
-- many steps as the program has instructions at most. The world tracks the last state.
pub record RunsOnce (shapes : List MapShape) (program : List Insn) (before : List Event) (context : List ℕ) (e : Ended)
    (tells : Bool) (text : List ℕ) (last : WorldView) : Type 0 where
  pub given : List Answer
  pub states : List Machine
  pub updates : IsHistory (start_with shapes program context) before given states
  pub are_done : AreDone (length before) given
  pub runs : StartsAndExits (last_of (start_with shapes program context) states) context e tells text last
  pub in_time : e.steps ≤ length program

-- Of the updates, the k-th, counted from 0, is the first that is not done. Those behind it are made, too, and no run is started.
pub record StopsAt (shapes : List MapShape) (program : List Insn) (before : List Event) (context : List ℕ) (k : ℕ)
    (text : List ℕ) (last : WorldView) : Type 0 where
  pub given : List Answer
  pub states : List Machine
  pub updates : IsHistory (start_with shapes program context) before given states
  pub tracked : Tracks last (last_of (start_with shapes program context) states)
  pub there : k < length before
  pub are_done : AreDone k given
  pub not_done : slice_get given k ≢ Some done
  pub untold : text ≡ []

-- One run comes to this end, with these updates before it, and leaves the maps as this world has them. The text tells its steps.
abbrev pub ComesTo : List MapShape → List Insn → List Event → List ℕ → RunEnd → Bool → List ℕ → WorldView → Type 0
ComesTo shapes program before context (Exited e) tells text last = RunsOnce shapes program before context e tells text last
ComesTo shapes program before context (NotDone k) tells text last = StopsAt shapes program before context k text last
