-- What an answer to an event tells, of the machine and of its lists.
use Rattle.std.specs.Prelude.{◌≡◌, Bool, true, false, List, Result}
use Rattle.bpf_model.specs.declared.event.Event.{Event}
use Rattle.bpf_model.specs.declared.event.Event.TheVariants.{Advance, Reap}
use Rattle.bpf_model.specs.declared.event.Answer.{Answer}
use Rattle.bpf_model.specs.Element.{Element}
use Rattle.bpf_model.specs.Event.{DoesEvent}
use Rattle.bpf_model.specs.Machine.{Machine}
use Rattle.bpf_model.specs.Schedule.{Schedule, retired, still_open, open_flags, scheduled}
use Rattle.bpf_model.specs.Schedule.{TakesFirst}
use Rattle.reference_store.specs.declared.fault.ModelFault.{ModelFault}
use Rattle.reference_store.specs.Telling.{TellsResult}

-- the machine made a step, or has none
abbrev pub DoesAs : Machine → Event → Result Answer ModelFault → Machine → Type 0
DoesAs m event answer new =
    TellsResult (λ a. DoesEvent m event a new) ((a : Answer) (next : Machine) →
    DoesEvent m event a next → ⊥) answer

-- the lists after an event other than an advance or a reap, of the machine that it led to; the
-- elements before it are given
abbrev pub settled : Schedule → List Element → Schedule
settled s olds = record {
  machine = s.machine;
  queues = retired 0 olds s.machine.store.elements s.queues;
  awaited =
      still_open s.awaited (open_flags s.machine.runs);
}

-- The lists after an event are those of the runtime's own choices, and a reap takes the first ready
-- element.
pub record FollowsLists (s : Schedule) (event : Event) (answer : Answer) (new : Schedule)
    : Type 0 where
  pub first : TakesFirst s event answer new.machine
  pub lists : new ≡ scheduled s event new.machine

-- an advance or a reap
abbrev pub is_advance_or_reap : Event → Bool
is_advance_or_reap Advance = true
is_advance_or_reap Reap = true
is_advance_or_reap _ = false
