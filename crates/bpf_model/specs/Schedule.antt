-- The choices of this runtime where the machine leaves one: which elements wait, when they may be
-- reclaimed, and which map slot a new one takes (a grace period as in Linux's RCU: it ends when
-- each section that was open at its beginning has ended).
use Rattle.std.specs.Prelude.{◌≡◌, ℕ, suc, ◌-◌, ◌==◌, ◌&&◌, Bool, true, false, List, [], ◌∷◌, ◌++◌}
use Rattle.std.specs.Prelude.{Option, Some, None, slice_get, length, map, drop, replicate}
use Rattle.std.specs.Prelude.{if◌then◌else◌}
use Rattle.std.specs.List.{list_any}
use Rattle.bpf_model.specs.declared.limits.MapShape.{MapShape}
use Rattle.bpf_model.specs.declared.limits.TheConstants.{MAX_RUNS}
use Rattle.bpf_model.specs.declared.event.Event.{Event}
use Rattle.bpf_model.specs.declared.event.Event.TheVariants.{Advance, Reap}
use Rattle.bpf_model.specs.declared.event.Answer.{Answer}
use Rattle.bpf_model.specs.declared.event.Answer.TheVariants.{Reaped}
use Rattle.bpf_model.specs.Section.{Section}
use Rattle.bpf_model.specs.Element.{Element, Life, Linked, Unlinked, Reclaimed, HasLife, is_linked}
use Rattle.bpf_model.specs.MapState.{MapState, Store}
use Rattle.bpf_model.specs.Machine.{Run, Machine, Loaded, is_inside, start_machine}
use Rattle.bpf_model.specs.Event.{DoesEvent}

-- The births of a map's unlinked elements, in three lists: those unlinked since the present grace
-- period began, those that wait for its end, and those that may be reclaimed.
pub record Queues : Type 0 where
  pub next : List ℕ
  pub waiting : List ℕ
  pub ready : List ℕ

abbrev pub no_queues : Queues
no_queues = record { next = []; waiting = []; ready = [] }

-- The machine; the lists of each map; and for each run slot whether its section is awaited, which
-- the present grace period waits for.
pub record Schedule : Type 0 where
  pub machine : Machine
  pub queues : List Queues
  pub awaited : List Bool

-- the run in a run slot is inside a section
abbrev pub is_open : Option Run → Bool
is_open None = false
is_open (Some run) = is_inside run

abbrev pub open_flags : List (Option Run) → List Bool
open_flags runs = map is_open runs

-- Which run slots are still awaited: an unlock also ends the waiting for its run, which the run's
-- next section doesn't revive.
abbrev pub still_open : List Bool → List Bool → List Bool
still_open (a ∷ awaited) (b ∷ opened) = (a && b) ∷ still_open awaited opened
still_open awaited opened = []

abbrev pub is_any : List Bool → Bool
is_any flags = list_any (λ b. b) flags

abbrev pub is_unlinked : Life → Bool
is_unlinked Linked = false
is_unlinked (Unlinked opened) = true
is_unlinked Reclaimed = false

-- The births of a map that were linked in the first list of elements and are unlinked in the
-- second; the first element's birth is n.
abbrev pub unlinked_between : ℕ → ℕ → List Element → List Element → List ℕ
unlinked_between map n (old ∷ olds) (new ∷ news) =
    if is_linked old.life && is_unlinked new.life
    && (old.map == map) then n ∷ unlinked_between map (suc n) olds news
    else unlinked_between map (suc n) olds news
unlinked_between map n olds news = []

-- An unlinked element goes to the end of its map's list next: of the lists of map k, and of those
-- of all maps, the first of which are map k's.
abbrev pub retired_in : ℕ → List Element → List Element → Queues → Queues
retired_in k old new q = record q { next = q.next ++ unlinked_between k 0 old new }

abbrev pub retired : ℕ → List Element → List Element → List Queues → List Queues
retired k old new [] = []
retired k old new (q ∷ qs) = retired_in k old new q ∷ retired (suc k) old new qs

-- A grace period ends and the next begins: those that waited are ready, and those unlinked
-- meanwhile wait.
abbrev pub turned : Queues → Queues
turned q = record { next = []; waiting = q.next; ready = q.ready ++ q.waiting }

-- An advance ends the grace period and begins the next when no run is awaited, and from then on the
-- runs that are open are awaited; else it changes nothing.
abbrev pub advanced : Schedule → Machine → Bool → Schedule
advanced s m true = record s { machine = m }
advanced s m false = record {
  machine = m;
  queues = map turned s.queues;
  awaited = open_flags m.runs;
}

-- the first of a map's ready births, or where it has none that of the later maps
abbrev pub or_first : List ℕ → Option ℕ → Option ℕ
or_first [] later = later
or_first (n ∷ ns) later = Some n

-- The birth that a reap takes: the first ready one of the lowest map that has one.
abbrev pub first_ready : List Queues → Option ℕ
first_ready [] = None
first_ready (q ∷ qs) = or_first q.ready (first_ready qs)

-- the lists without that birth
abbrev pub without_first : List Queues → List Queues
without_first [] = []
without_first (q ∷ qs) =
    if length q.ready == 0 then q ∷ without_first qs else record q { ready = drop 1 q.ready } ∷ qs

abbrev pub reaped : Schedule → Machine → Schedule
reaped s m = record s { machine = m; queues = without_first s.queues }

-- the schedule after an event, with the machine's next state
abbrev pub scheduled : Schedule → Event → Machine → Schedule
scheduled s Advance m = advanced s m (is_any s.awaited)
scheduled s Reap m = reaped s m
scheduled s event m = record {
  machine = m;
  queues = retired 0 s.machine.store.elements m.store.elements s.queues;
  awaited = still_open s.awaited (open_flags m.runs);
}

-- A reap takes the first ready birth, and finds nothing only when no list has one.
abbrev pub TakesFirst : Schedule → Event → Answer → Machine → Type 0
TakesFirst s Reap (Reaped None) m = first_ready s.queues ≡ None
TakesFirst s Reap (Reaped (Some element)) m =
    (n : ℕ) × (since : List Section) × (first_ready s.queues ≡ Some n)
    × HasLife s.machine.store.elements n (Unlinked since) × HasLife m.store.elements n Reclaimed
TakesFirst s event answer m = Unit {0}

-- A new element takes the map slot that has been free longest: the bag is a queue, to whose end a
-- reclaimed map slot goes.
abbrev pub TakesOldest : Store → Store → Type 0
TakesOldest old new =
    (e : Element) (before after : MapState) →
    slice_get new.elements (length old.elements) ≡ Some e →
    slice_get old.maps e.map ≡ Some before → slice_get new.maps e.map ≡ Some after →
    before.bag ≡ (e.uses - 1) ∷ after.bag

-- A step of the machine with these choices.
pub record DoesScheduled (s : Schedule) (event : Event) (answer : Answer) (new : Schedule)
    : Type 0 where
  pub step : DoesEvent s.machine event answer new.machine
  pub first : TakesFirst s event answer new.machine
  pub oldest : TakesOldest s.machine.store new.machine.store
  pub lists : new ≡ scheduled s event new.machine

abbrev pub IsScheduledHistory : Schedule → List Event → List Answer → List Schedule → Type 0
IsScheduledHistory s [] [] [] = Unit {0}
IsScheduledHistory s (event ∷ events) (answer ∷ answers) (next ∷ states) =
    DoesScheduled s event answer next
    × IsScheduledHistory next events answers states
IsScheduledHistory s events answers states = ⊥

-- the start: nothing waits, and no run is awaited
abbrev pub start_schedule : List MapShape → List Loaded → Schedule
start_schedule shapes programs =
    record {
      machine = start_machine shapes programs;
      queues = map (λ _. no_queues) shapes;
      awaited = replicate MAX_RUNS false;
    }
