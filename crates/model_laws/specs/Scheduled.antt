-- What is so in each state that the runtime's own choices reach, and when an element may be
-- reclaimed there.
use Rattle.std.specs.Prelude.{◌≡◌, ℕ, ◌+◌, ◌<◌, ◌==◌, ◌&&◌, true, List, Option, Some, None, length}
use Rattle.std.specs.Prelude.{slice_get, if◌then◌else◌}
use Rattle.bpf_model.specs.declared.event.Given.{Given}
use Rattle.bpf_model.specs.Section.{Section, Has, AllEnded}
use Rattle.bpf_model.specs.Element.{Element, Unlinked}
use Rattle.bpf_model.specs.Schedule.{is_unlinked}
use Rattle.bpf_model.specs.MapState.{Store}
use Rattle.bpf_model.specs.Reclaim.{Reclaims}
use Rattle.bpf_model.specs.Machine.{Run, Machine, open_sections, run_at, section_of}
use Rattle.bpf_model.specs.Schedule.{Queues, Schedule, open_flags}
use Rattle.model_laws.specs.Consistent.{IsConsistent}
use Rattle.bpf_model.specs.Refines.{times}

-- how often a birth with this element stands in the lists of map k: once, when the element is
-- unlinked and of that map
abbrev pub queued_in : ℕ → Option Element → ℕ
queued_in k None = 0
queued_in k (Some e) = if is_unlinked e.life && (e.map == k) then 1 else 0

-- No section that a ready element keeps is open, and each open section that a waiting one keeps is
-- awaited.
pub record Waits (s : Schedule) (q : Queues) : Type 0 where
  pub ended : (n : ℕ) (e : Element) (since : List Section) → 0 < times n q.ready
      → slice_get s.machine.store.elements n ≡ Some e → e.life ≡ Unlinked since
      → AllEnded since (open_sections s.machine.runs)
  pub awaits : (n : ℕ) (e : Element) (since : List Section) (r : ℕ) (run : Run) →
      0 < times n q.waiting
      → slice_get s.machine.store.elements n ≡ Some e → e.life ≡ Unlinked since →
      run_at s.machine.runs r ≡ Some run → 0 < run.depth → Has since (section_of run) →
      slice_get s.awaited r ≡ Some true

pub record IsScheduled (s : Schedule) : Type 0 where
  pub consistent : IsConsistent s.machine
  -- each map has its lists
  pub queues : length s.queues ≡ length s.machine.store.maps
  -- each unlinked element of a map stands once in the map's lists, and nothing else stands there
  pub queued : (k n : ℕ) (q : Queues) → slice_get s.queues k ≡ Some q
      → times n q.next + times n q.waiting + times n q.ready
      ≡ queued_in k (slice_get s.machine.store.elements n)
  -- a run that is awaited is inside a section
  pub awaited : (r : ℕ) → slice_get s.awaited r ≡ Some true →
      slice_get (open_flags s.machine.runs) r ≡ Some true
  -- each section that a ready element keeps has ended, and each one that a waiting element keeps
  -- has ended or is awaited
  pub waits : (k : ℕ) (q : Queues) → slice_get s.queues k ≡ Some q → Waits s q

-- The machine may reclaim the element.
abbrev pub IsReapable : Machine → ℕ → Type 0
IsReapable m n = (element : Element) × (given : Given) × (new : Store)
    × Reclaims m.store (open_sections m.runs) n element given new
