-- What is served to a run that asks, over the parts of a world: its maps, the numbers of the
-- program's maps, and how deep each run is inside sections.
use Rattle.std.specs.Prelude.{◌≡◌, ℕ, ◌+◌, ◌-◌, ◌<◌, ◌≤◌, Bool, nat_lt, List, Option, Some, map}
use Rattle.std.specs.Prelude.{slice_get, slice_set}
use Rattle.bpf_model.specs.declared.limits.TheConstants.{MAX_DEPTH, MAX_RUNS}
use Rattle.bpf_model.specs.declared.event.Answer.{Answer}
use Rattle.bpf_model.specs.declared.event.Answer.TheVariants as answers
use Rattle.bpf_model.specs.declared.insn.Insn.{Insn}
use Rattle.bpf_model.specs.Access.{byte_count}
use Rattle.bpf_model.specs.Machine.{Loaded}
use Rattle.bpf_model.specs.Schedule.{still_open}
use Rattle.bpf_model.specs.View.{MapView, RunView, WorldView}
use Rattle.element_store.specs.Sections.{GraceState, depth_at, is_open_depth, opened_in}
use Rattle.world_laws.specs.Locating.{location_of}
use Rattle.world_laws.specs.Reaching.{IsCall}
use Rattle.machine.specs.declared.request.Request.{Request}
use Rattle.machine.specs.declared.request.Request.TheVariants.{Load, Store, Call, Enter, Leave}
use Rattle.machine.specs.declared.request.Local.{Local}
use Rattle.machine.specs.declared.request.Local.TheVariants.{Moved, Shared, Exit}
use Rattle.machine.specs.Requests.{resumed_view}
use Rattle.world.specs.Elements.{ReachesElement, element_number, stored_element}
use Rattle.world.specs.Calls.{called}

-- What a request needs: an element where it reaches, the arguments of a helper, room for one more
-- lock, or a lock that is open.
abbrev pub CanServe : Request → List ℕ → List MapView → RunView → Type 0
CanServe (Load address offset width) bound maps v =
    ReachesElement maps (byte_count width) offset (location_of address)
CanServe (Store address offset width number) bound maps v =
    ReachesElement maps (byte_count width) offset (location_of address)
CanServe (Call helper) bound maps v = IsCall helper bound maps v
CanServe Enter bound maps v = v.depth < MAX_DEPTH
CanServe Leave bound maps v = 0 < v.depth

-- a run slot has a depth and a flag, and no section is awaited that is not open
pub record HasFlag (g : GraceState) (run : ℕ) : Type 0 where
  pub slot : run < MAX_RUNS
  pub inside : still_open g.awaited (opened_in g) ≡ g.awaited

-- The reply of a load or a helper: what the run goes on with. (Any number does for the others.)
abbrev pub IsReply : Request → List ℕ → List MapView → RunView → ℕ → Type 0
IsReply (Load address offset width) bound maps v word =
    word ≡ element_number maps (byte_count width) offset (location_of address)
IsReply (Call helper) bound maps v word = word ≡ (called helper bound v maps).0
IsReply request bound maps v word = Unit {0}

-- the maps after a request is served
abbrev pub maps_after : Request → List ℕ → RunView → List MapView → List MapView
maps_after (Store address offset width number) bound v maps =
    stored_element (byte_count width) number offset (location_of address) maps
maps_after (Call helper) bound v maps = (called helper bound v maps).1
maps_after request bound v maps = maps

-- The runs are so deep, and of the awaited sections those are awaited that are still open.
abbrev pub with_depths : GraceState → List ℕ → GraceState
with_depths g depths = record {
  depths = depths;
  awaited = still_open g.awaited (map is_open_depth depths);
}

-- how deep the runs are, and who is awaited, after what the run in this run slot asks is served
abbrev pub grace_after : Request → ℕ → GraceState → GraceState
grace_after Enter run g = with_depths g (slice_set g.depths run (depth_at g run + 1))
grace_after Leave run g = with_depths g (slice_set g.depths run (depth_at g run - 1))
grace_after request run g = g

-- The flag of run slot r is set where the depth of this view says so, no section is awaited that is
-- not open, and the depth is at most MAX_DEPTH.
pub record IsFlagged (w : WorldView) (r : ℕ) (v : RunView) : Type 0 where
  pub opened : slice_get w.opened r ≡ Some (nat_lt 0 v.depth)
  pub awaited : still_open w.awaited w.opened ≡ w.awaited
  pub depth : v.depth ≤ MAX_DEPTH

-- The world shows of these depths who is inside a section, and the same runs are awaited.
pub record ShowsGrace (w : WorldView) (g : GraceState) : Type 0 where
  pub opened : w.opened ≡ opened_in g
  pub awaited : w.awaited ≡ g.awaited

-- the world in which the run in run slot r has another view, with these maps and flags
abbrev pub world_showing : List MapView → List Bool → List Bool → ℕ → RunView → WorldView →
    WorldView
world_showing maps opened awaited r v w =
    record w { maps = maps; runs = slice_set w.runs r (Some v); opened = opened; awaited = awaited }

-- with these maps, and with the flags that these depths come to
abbrev pub world_with : List MapView → GraceState → ℕ → RunView → WorldView → WorldView
world_with maps g r v w = world_showing maps (opened_in g) g.awaited r v w

-- with the maps and flags that it has
abbrev pub with_view : ℕ → RunView → WorldView → WorldView
with_view r v w = world_showing w.maps w.opened w.awaited r v w

-- The run in run slot r has answered its step so, and has this view now: then x is what the world
-- answers, and the world after it. A run that asks is as before.
abbrev pub IsOwnWorld : Local → Option Request → ℕ → RunView → RunView → WorldView →
    Answer × WorldView → Type 0
IsOwnWorld Moved asked r v after w x = x ≡ (answers.Moved, with_view r after w)
IsOwnWorld (Exit n) asked r v after w x = x ≡ (answers.Exited n, with_view r after w)
IsOwnWorld (Shared request) asked r v after w x = (asked ≡ Some request) × (after ≡ v)

-- the world's step once the request is served, with this word, and the run has gone on; the runs
-- were so deep before it
abbrev pub served_step : Request → Insn → Loaded → ℕ → ℕ → RunView → GraceState → WorldView →
    Answer × WorldView
served_step request i program word r v g w = (
  answers.Moved,
  world_with (maps_after request program.maps v w.maps) (grace_after request r g) r
      (resumed_view i word v) w,
)
