-- What the verifier promises of an instruction and of a program, whatever other runs do.
use Rattle.std.specs.Prelude.{◌≡◌, ℕ, ◌+◌, ◌<◌, List, length, Option, Some, None, slice_get, Bool}
use Rattle.std.specs.Prelude.{true, false, ◌⊎◌, unwrap_or, ℤ, pos, ◌+ℤ◌}
use Rattle.bpf_model.specs.declared.insn.Insn.{Insn}
use Rattle.bpf_model.specs.declared.insn.Insn.TheVariants.{Call}
use Rattle.bpf_model.specs.declared.limits.MapKind.TheVariants.{Array}
use Rattle.bpf_model.specs.declared.limits.MapShape.{MapShape}
use Rattle.bpf_model.specs.declared.event.Answer.{Answer}
use Rattle.bpf_model.specs.Step.{slot_count}
use Rattle.bpf_model.specs.Places.{StartsAt}
use Rattle.bpf_model.specs.Graph.{falls, distance, JumpsTo}
use Rattle.bpf_model.specs.Step.{State, Environment, Outcome, Moves, Exits, after, entry, insn_at}
use Rattle.model_laws.specs.Consistent.{HasLengths, IsSingle}
use Rattle.bpf_model.specs.Section.{Section, Has}
use Rattle.bpf_model.specs.Element.{Element, is_reclaimed}
use Rattle.bpf_model.specs.MapState.{MapState, Store}
use Rattle.bpf_model.specs.Machine.{Run, section_of}
use Rattle.model_laws.specs.ByKind.{AccessesElement}
use Rattle.bpf_model.specs.MachineStep.{InsnStep}
use Rattle.bpf_model.specs.Real.{AreBytes, AllBytes}
use Rattle.plan_laws.specs.Kinds.{AbsState}
use Rattle.plan_laws.specs.Describes.{Scene, scene_of, Describes}

-- each shape is that of the map to which the program's list binds it
pub record AreMapsBound (shapes : List MapShape) (maps : List ℕ)
    (states : List MapState) : Type 0 where
  pub count : length maps ≡ length shapes
  pub each : (i : ℕ) (shape : MapShape) → slice_get shapes i ≡ Some shape →
      (map : ℕ) × (state : MapState)
      × (slice_get maps i ≡ Some map) × (slice_get states map ≡ Some state) × (state.shape ≡ shape)

-- an element of an array isn't reclaimed
abbrev pub StaysKept : List MapState → Element → Type 0
StaysKept maps e = (state : MapState) → slice_get maps e.map ≡ Some state →
    state.shape.kind ≡ Array → is_reclaimed e.life ≡ false

-- What is so around a run that hasn't ended, in each state that is reached, of a program that was
-- verified against these shapes.
pub record Surrounds (shapes : List MapShape) (ctx_len : ℕ) (s : Store) (opened : List Section)
    (run : Run) : Type 0 where
  pub going : run.exit ≡ None
  pub section : 0 < run.depth → Has opened (section_of run)
  pub single : IsSingle s.elements
  pub lengths : (n : ℕ) (e : Element) → slice_get s.elements n ≡ Some e → HasLengths s.maps e
  pub arrays : (n : ℕ) (e : Element) → slice_get s.elements n ≡ Some e → StaysKept s.maps e
  pub bytes : AllBytes s.elements
  pub bound : AreMapsBound shapes run.program.maps s.maps
  pub long : length run.context ≡ ctx_len
  pub context : AreBytes run.context

-- the instruction has a step
abbrev pub HasStep : Insn → Store → List Section → Run → Type 0
HasStep i s opened run = (answer : Answer) × (new_store : Store) × (new_run : Run)
    × InsnStep i s opened run answer new_store new_run

-- where the instruction jumps, its target is not before slot 0
abbrev pub JumpsToSlot : Insn → ℕ → Type 0
JumpsToSlot i place = (d : ℤ) → distance i ≡ Some d →
    (target : ℕ) × (pos target ≡ pos (place + 1) +ℤ d)

-- An exit is outside every section. Else the run is described where control falls through, or where
-- it jumps: by the state beside it, where there is one.
abbrev pub LandsDescribed : Insn → AbsState → Option AbsState → Scene → ℕ → Outcome → Type 0
LandsDescribed i new taken c place (Exits n) = c.depth ≡ 0
LandsDescribed i new taken c place (Moves next) =
    ((falls i ≡ true) × (next.place ≡ place + slot_count i) × Describes new c next)
    ⊎ (JumpsTo i place next.place × Describes (unwrap_or taken new) c next)

-- the run has ended, or is described where it goes on
abbrev pub Leads : Insn → AbsState → Option AbsState → ℕ → Store → Run → Type 0
Leads i new taken place s run =
    run.exit ≡ None → LandsDescribed i new taken (scene_of s run) place (Moves run.state)

-- What `transfer` (crate `state_steps`) ensures: from each described state, where a jump has its
-- target, the instruction isn't stuck, each of its steps leads to a described one, and bytes stay
-- bytes.
pub record Transfers (i : Insn) (shapes : List MapShape) (ctx_len : ℕ) (old new : AbsState)
    (taken : Option AbsState) : Type 0 where
  pub goes : (s : Store) (opened : List Section) (run : Run) → Surrounds shapes ctx_len s opened run
      → JumpsToSlot i run.state.place → Describes old (scene_of s run) run.state
      → HasStep i s opened run
  pub leads : (s : Store) (opened : List Section) (run : Run) (answer : Answer)
      (new_store : Store) (new_run : Run) → Surrounds shapes ctx_len s opened run
      → JumpsToSlot i run.state.place → Describes old (scene_of s run) run.state →
      InsnStep i s opened run answer new_store new_run → AllBytes new_store.elements
      × Leads i new taken run.state.place new_store new_run

-- what is known before each instruction, by its index
abbrev pub Plan : Type 0
Plan = ℕ → Option AbsState

-- the run stands before the instruction of this index, and the plan describes it
pub record IsPlanned (code : List Insn) (plan : Plan) (k : ℕ) (c : Scene) (m : State) : Type 0 where
  pub at : StartsAt code k m.place
  pub known : AbsState
  pub planned : plan k ≡ Some known
  pub describes : Describes known c m

-- the run stands before an instruction of a greater index than this, and the plan describes it
pub record IsPlannedAfter (code : List Insn) (plan : Plan) (k : ℕ) (c : Scene) (m : State)
    : Type 0 where
  pub index : ℕ
  pub further : k < index
  pub planned : IsPlanned code plan index c m

-- The plan holds at the entry, outside every section, and each step keeps it, further on.
pub record IsClosed (code : List Insn) (shapes : List MapShape) (ctx_len : ℕ) (plan : Plan)
    : Type 0 where
  pub start : (c : Scene) → c.depth ≡ 0 → IsPlanned code plan 0 c entry
  pub goes : (k : ℕ) (s : Store) (opened : List Section) (run : Run) →
      Surrounds shapes ctx_len s opened run
      → IsPlanned code plan k (scene_of s run) run.state →
      (i : Insn) × (insn_at code run.state.place ≡ Some i) × HasStep i s opened run
  pub leads : (k : ℕ) (i : Insn) (s : Store) (opened : List Section) (run : Run)
      (answer : Answer) (new_store : Store) (new_run : Run)
      → Surrounds shapes ctx_len s opened run →
      IsPlanned code plan k (scene_of s run) run.state →
      insn_at code run.state.place ≡ Some i
      → InsnStep i s opened run answer new_store new_run →
      AllBytes new_store.elements × (new_run.exit ≡ None
      → IsPlannedAfter code plan k (scene_of new_store new_run) new_run.state)

-- A program that is verified: some plan of it is closed. Each `Verified` (crate `verifier`) is one.
pub record IsVerified (code : List Insn) (shapes : List MapShape) (ctx_len : ℕ) : Type 0 where
  pub plan : Plan
  pub closed : IsClosed code shapes ctx_len plan

-- the instruction is a call
abbrev pub is_call : Insn → Bool
is_call (Call kind imm) = true
is_call i = false

pub record IsEnvironment (ctx_len maps : ℕ) (env : Environment) : Type 0 where
  pub long : length env.context ≡ ctx_len
  pub bytes : AreBytes env.context
  pub bound : env.maps ≡ maps

-- What is to be shown of an instruction that is no call and accesses no element: its one outcome,
-- by `after`. The scene is the same after it.
pub record ActsAlone (i : Insn) (new : AbsState) (taken : Option AbsState) (c : Scene)
    (env : Environment) (m : State) : Type 0 where
  pub out : Outcome
  pub after_is : after i env m ≡ Some out
  pub alone : (es fs : List Element) (other : Outcome) → AccessesElement i es m other fs → ⊥
  pub lands : LandsDescribed i new taken c m.place out

abbrev pub TransfersAlone : Insn → List MapShape → ℕ → AbsState → AbsState → Option AbsState →
    Type 0
TransfersAlone i shapes ctx_len old new taken = (c : Scene) (env : Environment) (m : State)
    → IsEnvironment ctx_len (length shapes) env → JumpsToSlot i m.place → Describes old c m
    → ActsAlone i new taken c env m
