-- When a world refines a state of the machine: one naming of births by map slots turns what the
-- world keeps into that state.
use Rattle.std.specs.Prelude.{◌≡◌, ℕ, ◌<◌, ◌≤◌, ◌==◌, false, List, Option, Some, None, slice_get}
use Rattle.std.specs.Prelude.{slice_index, map, count_by, length}
use Rattle.std.specs.List.{sum_by}
use Rattle.std.specs.FinMap.{get, len}
use Rattle.bpf_model.specs.declared.limits.MapShape.{MapShape}
use Rattle.bpf_model.specs.declared.limits.TheConstants.{FRAME_BYTES, MAX_MAPS, MAX_PROGRAMS}
use Rattle.bpf_model.specs.declared.limits.TheConstants.{REGISTERS}
use Rattle.bpf_model.specs.declared.event.Event.{Event}
use Rattle.bpf_model.specs.declared.event.Answer.{Answer}
use Rattle.bpf_model.specs.Element.{Element, IsLinkedAt, linked_count, is_reclaimed}
use Rattle.bpf_model.specs.MapState.{MapState, slots_of_shape}
use Rattle.bpf_model.specs.Shapes.{AreShapes, most_births}
use Rattle.bpf_model.specs.Machine.{Loaded, Run, Machine}
use Rattle.bpf_model.specs.Real.{AreReal}
use Rattle.bpf_model.specs.Schedule.{Queues, Schedule, open_flags, IsScheduledHistory}
use Rattle.bpf_model.specs.Schedule.{start_schedule}
use Rattle.bpf_model.specs.View.{SlotView, MapView, RunView, WorldView, map_state_of, shapes_of}
use Rattle.bpf_model.specs.Word.{WordIs, ByteIs, element_bases}
use Rattle.bpf_model.specs.History.{last_of}

-- how often a number stands in a list
abbrev pub times : ℕ → List ℕ → ℕ
times n xs = count_by (λ x. x == n) xs

abbrev pub slot_view : Element → SlotView
slot_view e = record { key = e.key; value = e.value; uses = e.uses }

-- An element of map k that isn't reclaimed.
pub record IsElementKept (es : List Element) (k n : ℕ) (e : Element) : Type 0 where
  pub born : slice_get es n ≡ Some e
  pub in_map : e.map ≡ k
  pub kept : is_reclaimed e.life ≡ false

-- The map slots of a map: as many as its shape says; each free one is one of them and stands once
-- among the free.
pub record SlotsStand (v : MapView) : Type 0 where
  pub room : length v.slots ≡ slots_of_shape v.shape
  pub once : (i : ℕ) → times i v.free ≤ 1
  pub inside : (i : ℕ) → 0 < times i v.free → i < length v.slots

-- The kept elements of map k stand each in a map slot of its own, none of them free. The index has
-- the linked ones, and no others.
pub record ElementsStand (slots : List ℕ) (k : ℕ) (es : List Element) (v : MapView) : Type 0 where
  pub occupied : (n : ℕ) (e : Element) → IsElementKept es k n e →
      slice_get v.slots (slice_index slots n) ≡ Some (slot_view e)
  pub single : (a b : ℕ) (d e : Element) → IsElementKept es k a d → IsElementKept es k b e →
      slice_index slots a ≡ slice_index slots b → a ≡ b
  pub apart : (n : ℕ) (e : Element) → IsElementKept es k n e →
      times (slice_index slots n) v.free ≡ 0
  pub found : (key : List ℕ) (i : ℕ) → get v.index key ≡ Some i →
      (n : ℕ) × IsLinkedAt es k key n × (slice_index slots n ≡ i)
  pub finds : (key : List ℕ) (n : ℕ) → IsLinkedAt es k key n →
      get v.index key ≡ Some (slice_index slots n)
  pub counted : len v.index ≡ linked_count k es

-- the lists of a view, and those of the births, each birth by its map slot
abbrev pub lists_of : MapView → Queues
lists_of v = record { next = v.next; waiting = v.waiting; ready = v.ready }

abbrev pub named : List ℕ → Queues → Queues
named slots q = record {
  next = map (slice_index slots) q.next;
  waiting = map (slice_index slots) q.waiting;
  ready = map (slice_index slots) q.ready;
}

-- Map k: its state and its lists are what the view shows, and its map slots and elements stand in
-- it.
pub record MapRefines (slots : List ℕ) (k : ℕ) (es : List Element) (q : Queues) (v : MapView)
    (m : MapState) : Type 0 where
  pub state : m ≡ map_state_of v
  pub lists : lists_of v ≡ named slots q
  pub free : SlotsStand v
  pub elements : ElementsStand slots k es v

-- The words and bytes stand for the run's registers and frame, where elements lie at these words.
pub record AreWords (bases : ℕ → ℕ) (w : RunView) (run : Run) : Type 0 where
  pub context : w.context ≡ run.context
  pub register_count : length w.registers ≡ REGISTERS
  pub registers : (r : ℕ) → r < REGISTERS →
      WordIs bases (run.state.regs r) (slice_index w.registers r)
  pub cells : length w.frame ≡ FRAME_BYTES
  pub frame : (k : ℕ) → k < FRAME_BYTES →
      ByteIs bases (run.state.frame k) (slice_index w.frame k)
  pub place : w.place ≡ run.state.place
  pub depth : w.depth ≡ run.depth
  pub moved : w.moved ≡ run.moved
  pub exit : w.exit ≡ run.exit

-- A run: its program, and its words.
pub record RunRefines (slots : List ℕ) (es : List Element) (programs : List Loaded) (w : RunView)
    (run : Run) : Type 0 where
  pub program : slice_get programs w.program ≡ Some run.program
  pub words : AreWords (element_bases slots es) w run

abbrev pub RunSlotRefines : List ℕ → List Element → List Loaded → Option (Option RunView) →
    Option (Option Run) → Type 0
RunSlotRefines slots es programs None None = Unit {0}
RunSlotRefines slots es programs (Some None) (Some None) = Unit {0}
RunSlotRefines slots es programs (Some (Some w)) (Some (Some run)) =
    RunRefines slots es programs w run
RunSlotRefines slots es programs w run = ⊥

-- The world refines the schedule's machine. The map slots are those of all births, in order; like
-- the elements, this list only grows.
pub record RefinesSchedule (w : WorldView) (s : Schedule) : Type 0 where
  pub slots : List ℕ
  pub named : length slots ≡ length s.machine.store.elements
  pub maps : (length w.maps ≡ length s.machine.store.maps)
      × (length s.queues ≡ length s.machine.store.maps)
  pub map : (k : ℕ) (v : MapView) (m : MapState) (q : Queues) → slice_get w.maps k ≡ Some v
      → slice_get s.machine.store.maps k ≡ Some m → slice_get s.queues k ≡ Some q →
      MapRefines slots k s.machine.store.elements q v m
  pub runs : (r : ℕ) → RunSlotRefines slots s.machine.store.elements s.machine.programs
      (slice_get w.runs r) (slice_get s.machine.runs r)
  pub opened : w.opened ≡ open_flags s.machine.runs
  pub awaited : w.awaited ≡ s.awaited
  pub flags : length s.awaited ≡ length (open_flags s.machine.runs)
  pub programs : w.programs ≡ s.machine.programs
  pub given : w.given ≡ count_by (λ e. is_reclaimed e.life) s.machine.store.elements

-- Some history of the machine with this runtime's choices, from the start with maps of shapes that
-- there may be and with events within their types, ends in the state.
pub record IsReachedSchedule (shapes : List MapShape) (programs : List Loaded) (s : Schedule)
    : Type 0 where
  pub limits : AreShapes shapes
  pub events : List Event
  pub answers : List Answer
  pub states : List Schedule
  pub real : AreReal events
  pub history : IsScheduledHistory (start_schedule shapes programs) events answers states
  pub last : last_of (start_schedule shapes programs) states ≡ s

-- The world tracks a state that it refines and that is reached from the start with its maps and
-- programs. (Words alone don't tell a number from a reference, nor either from nothing: a world
-- also refines states that no run reaches.)
pub record TracksSchedule (w : WorldView) (s : Schedule) : Type 0 where
  pub refines : RefinesSchedule w s
  pub reached : IsReachedSchedule (shapes_of w) w.programs s

abbrev pub Tracks : WorldView → Machine → Type 0
Tracks w m = (s : Schedule) × (s.machine ≡ m) × TracksSchedule w s

-- Further limits of a world: so many maps and programs at most, and no more reclaimed elements than
-- the map slots can ever bear. So every number that a world counts has room.
pub record IsBounded (w : WorldView) : Type 0 where
  pub maps : length w.maps ≤ MAX_MAPS
  pub programs : length w.programs ≤ MAX_PROGRAMS
  pub given : w.given ≤ sum_by most_births (shapes_of w)
