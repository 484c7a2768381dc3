-- Events and the machine's answers to them. One event is one atomic action of one actor.
use Rattle.std.specs.Prelude.{◌≡◌, ℕ, ◌==◌, ◌&&◌, List, length, Option, Some, None}
use Rattle.std.specs.Prelude.{slice_get, slice_set, if◌then◌else◌}
use Rattle.bpf_model.specs.declared.limits.MapShape.{MapShape}
use Rattle.bpf_model.specs.declared.event.Event.{Event}
use Rattle.bpf_model.specs.declared.event.Event.TheVariants as events
use Rattle.bpf_model.specs.declared.event.Answer.{Answer}
use Rattle.bpf_model.specs.declared.event.Answer.TheVariants.{Started, Ret, Found, Done, Reaped}
use Rattle.bpf_model.specs.declared.event.Answer.TheVariants.{Refused}
use Rattle.bpf_model.specs.declared.event.EventRefusal.{EventRefusal}
use Rattle.bpf_model.specs.declared.event.EventRefusal.TheVariants.{NoRun, Ended, NoProgram}
use Rattle.bpf_model.specs.declared.event.EventRefusal.TheVariants.{BadContext, RunsFull, NoMap}
use Rattle.bpf_model.specs.declared.event.EventRefusal.TheVariants.{BadLength, StillRunning}
use Rattle.bpf_model.specs.Element.{Element, IsLinkedAt, IsAbsent}
use Rattle.bpf_model.specs.MapState.{Store, shape_of}
use Rattle.bpf_model.specs.Helper.{Updates, Deletes}
use Rattle.bpf_model.specs.Reclaim.{Reclaims}
use Rattle.bpf_model.specs.Machine.{Loaded, Run, Machine, open_sections, with_store, with_runs}
use Rattle.bpf_model.specs.Machine.{begins, lowest_free, run_at}
use Rattle.bpf_model.specs.MachineStep.{StepsRun}

-- refused where there is no free run slot
abbrev pub if_full : Option ℕ → Option EventRefusal
if_full None = Some RunsFull
if_full (Some r) = None

-- a start asks for the program, then for the context's length, then for a free run slot
abbrev pub start_refusal : Option Loaded → ℕ → Option ℕ → Option EventRefusal
start_refusal None len free = Some NoProgram
start_refusal (Some program) len free =
    if len == program.context_len then if_full free else Some BadContext

-- refused where there is an exit value
abbrev pub if_ended : Option ℕ → Option EventRefusal
if_ended None = None
if_ended (Some n) = Some Ended

-- a step asks for a run that has not ended
abbrev pub step_refusal : Option Run → Option EventRefusal
step_refusal None = Some NoRun
step_refusal (Some run) = if_ended run.exit

-- refused where there is no exit value
abbrev pub if_running : Option ℕ → Option EventRefusal
if_running None = Some StillRunning
if_running (Some n) = None

-- a drop asks for a run that has ended
abbrev pub drop_refusal : Option Run → Option EventRefusal
drop_refusal None = Some NoRun
drop_refusal (Some run) = if_running run.exit

-- an event of the control plane asks for the map, then for the lengths of key and value
abbrev pub key_refusal : Option MapShape → ℕ → Option EventRefusal
key_refusal None key_len = Some NoMap
key_refusal (Some shape) key_len = if key_len == shape.key_len then None else Some BadLength

abbrev pub update_refusal : Option MapShape → ℕ → ℕ → Option EventRefusal
update_refusal None key_len value_len = Some NoMap
update_refusal (Some shape) key_len value_len =
    if (key_len == shape.key_len) && (value_len == shape.value_len) then None else Some BadLength

-- The first test of an event that fails. An advance and a reap have no test.
abbrev pub refusal : Machine → Event → Option EventRefusal
refusal m (events.Start prog ctx) =
    start_refusal (slice_get m.programs prog) (length ctx.items) (lowest_free m.runs)
refusal m (events.Step run) = step_refusal (run_at m.runs run)
refusal m (events.Update map key value flags) =
    update_refusal (shape_of m.store map) (length key.items) (length value.items)
refusal m (events.Delete map key) = key_refusal (shape_of m.store map) (length key.items)
refusal m (events.Read map key) = key_refusal (shape_of m.store map) (length key.items)
refusal m (events.Drop run) = drop_refusal (run_at m.runs run)
refusal m event = None

-- The start of a program: the run takes the lowest free run slot.
pub record Starts (m : Machine) (prog : ℕ) (context : List ℕ) (r : ℕ) (new : Machine) : Type 0 where
  pub program : Loaded
  pub there : slice_get m.programs prog ≡ Some program
  pub lowest : lowest_free m.runs ≡ Some r
  pub new_is : new ≡ begins m r program context

-- A read finds the value of the key's element.
pub record ReadsElement (m : Machine) (map : ℕ) (key value : List ℕ) : Type 0 where
  pub n : ℕ
  pub linked : IsLinkedAt m.store.elements map key n
  pub value_is : value ≡ linked.element.value

-- What the machine answers to an event that isn't refused, and its state after it. An advance
-- changes nothing here: it is the runtime's own means of finding out which sections have ended. A
-- reap may also find nothing.
abbrev pub PerformsEvent : Machine → Event → Answer → Machine → Type 0
PerformsEvent m (events.Start prog ctx) (Started r) new = Starts m prog ctx.items r new
PerformsEvent m (events.Step run) answer new = StepsRun m run answer new
PerformsEvent m (events.Update map key value flags) (Ret ret) new =
    (store : Store)
    × Updates m.store (open_sections m.runs) map key.items value.items flags ret store
    × (new ≡ with_store m store)
PerformsEvent m (events.Delete map key) (Ret ret) new =
    (store : Store) × Deletes m.store (open_sections m.runs) map key.items ret store
    × (new ≡ with_store m store)
PerformsEvent m (events.Read map key) (Found (Some value)) new =
    ReadsElement m map key.items value.items × (new ≡ m)
PerformsEvent m (events.Read map key) (Found None) new =
    IsAbsent m.store.elements map key.items × (new ≡ m)
PerformsEvent m events.Advance Done new = new ≡ m
PerformsEvent m events.Reap (Reaped None) new = new ≡ m
PerformsEvent m events.Reap (Reaped (Some reaped)) new =
    (n : ℕ) × (e : Element) × (store : Store)
    × Reclaims m.store (open_sections m.runs) n e reaped.given store
    × (reaped.map ≡ e.map) × (reaped.key.items ≡ e.key) × (new ≡ with_store m store)
PerformsEvent m (events.Drop run) Done new = new ≡ with_runs m (slice_set m.runs run None)
PerformsEvent m event answer new = ⊥

-- A step of the machine: an event is refused exactly when a test fails, by the first that does, and
-- then nothing changes.
abbrev pub Answers : Option EventRefusal → Machine → Event → Answer → Machine → Type 0
Answers (Some refusal) m event answer new = (answer ≡ Refused refusal) × (new ≡ m)
Answers None m event answer new = PerformsEvent m event answer new

abbrev pub DoesEvent : Machine → Event → Answer → Machine → Type 0
DoesEvent m event answer new = Answers (refusal m event) m event answer new
