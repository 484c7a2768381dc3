-- When a world's own step is one of the schedule.
use Rattle.std.specs.Prelude.{◌≡◌, ℕ, List, Some, Result, ℤ}
use Rattle.bpf_model.specs.declared.call.Errno.{Errno}
use Rattle.bpf_model.specs.declared.event.Event.{Event}
use Rattle.bpf_model.specs.declared.event.Answer.{Answer}
use Rattle.bpf_model.specs.Value.{◌>>=◌}
use Rattle.bpf_model.specs.Element.{Element, accessible}
use Rattle.bpf_model.specs.MapState.{Store, with_elements}
use Rattle.bpf_model.specs.Helper.{Updates, Deletes}
use Rattle.bpf_model.specs.Machine.{open_sections, with_store}
use Rattle.bpf_model.specs.Element.{stored_in}
use Rattle.bpf_model.specs.Schedule.{Schedule, retired, TakesOldest, DoesScheduled}
use Rattle.bpf_model.specs.View.{WorldView}
use Rattle.bpf_model.specs.Refines.{RefinesSchedule}
use Rattle.model_laws.specs.Scheduled.{IsScheduled}

-- The world refines the schedule, whose lists are right.
pub record Matches (w : WorldView) (s : Schedule) : Type 0 where
  pub refines : RefinesSchedule w s
  pub scheduled : IsScheduled s

-- The schedule has a step for the event, with the answer, to a schedule that the view after it
-- matches.
pub record Simulates (s : Schedule) (event : Event) (reaction : Answer × WorldView) : Type 0 where
  pub next : Schedule
  pub does : DoesScheduled s event reaction.0 next
  pub matches : Matches reaction.1 next

-- A step of a run that changes the maps, in two halves: first the maps, with the lists; then the
-- run.
abbrev pub half : Schedule → Store → Schedule
half s store = record {
  machine = with_store s.machine store;
  queues = retired 0 s.machine.store.elements store.elements s.queues;
  awaited = s.awaited;
}

-- The first half of a step that changes the store like this: the view refines the schedule after
-- it.
pub record ChangesHalf (w : WorldView) (s : Schedule) (Changes : Store → Type 0) : Type 0 where
  pub store : Store
  pub changes : Changes store
  pub oldest : TakesOldest s.machine.store store
  pub refines : RefinesSchedule w (half s store)

-- the first half of a delete of the key from map k, with this result
abbrev pub DeletesHalf : WorldView → Schedule → ℕ → List ℕ → Result (Unit {0}) Errno → Type 0
DeletesHalf w s k key ret =
    ChangesHalf w s (Deletes s.machine.store (open_sections s.machine.runs) k key ret)

-- the first half of an update of the key in map k, with this result
abbrev pub UpdatesHalf : WorldView → Schedule → ℕ → List ℕ → List ℕ → ℕ →
    Result (Unit {0}) Errno → Type 0
UpdatesHalf w s k key value flags ret =
    ChangesHalf w s (Updates s.machine.store (open_sections s.machine.runs) k key value flags ret)

-- The first half of a store of the low bytes of a number to the value of element n: the view
-- refines the schedule after it.
pub record StoresHalf (w : WorldView) (s : Schedule) (n width : ℕ) (offset : ℤ) (x : ℕ)
    : Type 0 where
  pub elements : List Element
  pub stored : (accessible s.machine.store.elements n
      >>= stored_in s.machine.store.elements n width offset x) ≡ Some elements
  pub oldest : TakesOldest s.machine.store (with_elements elements s.machine.store)
  pub refines : RefinesSchedule w (half s (with_elements elements s.machine.store))
