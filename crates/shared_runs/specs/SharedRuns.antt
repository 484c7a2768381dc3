-- A run that is served from a table which many share, with no lock: each of its steps is one that the machine's run makes
-- by itself, or it asks, and is answered by what its seat does to the table. Lists of moves have the newest first.
use Rattle.std.specs.Prelude.{◌≡◌, ℕ, suc, ◌+◌, ◌*◌, ◌^◌, ◌<◌, ◌≤◌, ◌==◌, List, [], ◌∷◌, ◌++◌, Option, Some}
use Rattle.std.specs.Prelude.{option_map, slice_get, pos, if◌then◌else◌}
use Rattle.bpf_model.specs.declared.call.Helper.TheVariants.{Lookup}
use Rattle.bpf_model.specs.declared.event.Answer.{Answer}
use Rattle.bpf_model.specs.declared.event.Answer.TheVariants.{Exited, Moved}
use Rattle.bpf_model.specs.declared.insn.Insn.{Insn}
use Rattle.bpf_model.specs.declared.limits.MapShape.{MapShape}
use Rattle.bpf_model.specs.declared.value.Value.{Value}
use Rattle.bpf_model.specs.declared.value.Value.TheVariants.{Nothing, Number}
use Rattle.bpf_model.specs.Machine.{Loaded, Run, environment, fresh_run}
use Rattle.bpf_model.specs.MachineStep.{OutcomeStep}
use Rattle.bpf_model.specs.Request.{found_value}
use Rattle.bpf_model.specs.Request.{Request, LoadElement, StoreElement, CallHelper, Enter, Leave}
use Rattle.bpf_model.specs.Request.{MapArgument, BytesArgument, asks}
use Rattle.bpf_model.specs.MachineStep.{Resumes}
use Rattle.bpf_model.specs.Step.{Outcome, after, insn_at}
use Rattle.world_laws.specs.Around.{element_in_region, region_of}
use Rattle.shared_runs.specs.Tables.{Table}
use Rattle.shared_runs.specs.Words.{FitsTable, part_of}

-- The outermost lock of a run opens its seat's section, and the outermost unlock closes it; those between are no moves of
-- the seat.
abbrev pub opening : (k : Table) → ℕ → List k.Move
opening k depth = if depth == 0 then k.begins ∷ [] else []

abbrev pub closing : (k : Table) → ℕ → List k.Move
closing k depth = if depth == 1 then k.ends ∷ [] else []

-- a lookup of a key through a map of the program's list
abbrev pub lookup_of : ℕ → List ℕ → Request
lookup_of map key = CallHelper Lookup (MapArgument map ∷ BytesArgument key ∷ [])

-- What a table replies to a request of a run whose locks are so many deep, by what its seat does then, after all that it
-- did for the run before. A number names an element, and the map through which it was found: within a section what is held
-- is one element. A load answers bytes of one word of a value, which is found whole, and a store writes a whole word, in an
-- element that is held. A lookup answers null, or an element. Nothing else is served.
abbrev pub Replies : (k : Table) → ℕ → List k.Move → Request → List k.Move → Value → Type 0
Replies k depth done (LoadElement n offset width) ms reply =
    (place low x : ℕ) × (offset ≡ pos (8 * place + low)) × (low + width ≤ 8)
    × (place < k.value_words) × (region_of n < k.elements) × k.Holds (region_of n) done
    × (x < 2 ^ 64) × (ms ≡ k.finds (region_of n) place x ∷ [])
    × (reply ≡ Number (part_of x low width))
Replies k depth done (StoreElement n offset width x) ms reply =
    (place : ℕ) × (width ≡ 8) × (offset ≡ pos (8 * place)) × (place < k.value_words)
    × (region_of n < k.elements) × k.Holds (region_of n) done
    × (ms ≡ k.writes (region_of n) place x ∷ []) × (reply ≡ Nothing)
Replies k depth done (CallHelper Lookup (MapArgument map ∷ BytesArgument key ∷ [])) ms reply =
    (found : Option ℕ) × k.LooksUp map key ms found
    × (reply ≡ found_value (option_map (element_in_region map) found))
Replies k depth done (CallHelper helper arguments) ms reply = ⊥
Replies k depth done Enter ms reply = (ms ≡ opening k depth) × (reply ≡ Nothing)
Replies k depth done Leave ms reply = (ms ≡ closing k depth) × (reply ≡ Nothing)

-- A step that the run makes by itself, to another state or to its exit.
pub record StepsItself (run : Run) (answer : Answer) (next : Run) : Type 0 where
  pub insn : Insn
  pub here : insn_at run.program.code run.state.place ≡ Some insn
  pub out : Outcome
  pub does : after insn (environment run) run.state ≡ Some out
  pub leads : OutcomeStep out run answer next

-- A step by which the run asks the table; the maps of the program's list have these shapes.
pub record StepsShared (k : Table) (shapes : List MapShape) (done : List k.Move) (run : Run)
    (ms : List k.Move) (next : Run) : Type 0 where
  pub insn : Insn
  pub here : insn_at run.program.code run.state.place ≡ Some insn
  pub request : Request
  pub reply : Value
  pub asked : asks insn (slice_get shapes) run.state ≡ Some request
  pub replied : Replies k run.depth done request ms reply
  pub resumes : Resumes request insn reply run next

-- After so many steps the run has come here, and the list is what its seat did to the table for it: nothing else.
pub data Comes (k : Table) (shapes : List MapShape) (start : Run) : List k.Move → ℕ → Run →
    Type 0 where
  starts : Comes k shapes start [] 0 start
  itself : (ms : List k.Move) (steps : ℕ) (run next : Run) → Comes k shapes start ms steps run →
      StepsItself run Moved next → Comes k shapes start ms (suc steps) next
  shared : (ms ns : List k.Move) (steps : ℕ) (run next : Run) → Comes k shapes start ms steps run →
      StepsShared k shapes ms run ns next → Comes k shapes start (ns ++ ms) (suc steps) next

-- A shared run of the program on the context: the table keeps each map of its list, it begins at the entry, outside every
-- section, what its seat did is the list, and it exits with the value; so many steps it makes, the exit among them.
pub record IsSharedRun (k : Table) (shapes : List MapShape) (program : Loaded)
    (context : List ℕ) (ms : List k.Move) (steps value : ℕ) : Type 0 where
  pub fits : FitsTable k shapes
  pub name : ℕ
  pub moves : ℕ
  pub last : Run
  pub new : Run
  pub comes : Comes k shapes (fresh_run name program context) ms moves last
  pub exits : StepsItself last (Exited value) new
  pub steps_are : steps ≡ suc moves
