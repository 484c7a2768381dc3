-- The drain law: after two advances that met no open section, each reap takes an element until
-- those unlinked before the first are gone.
use Rattle.std.specs.Prelude.{◌≡◌, ℕ, ◌<◌, List, [], ◌∷◌, Some, None, slice_get, map}
use Rattle.bpf_model.specs.declared.event.Event.{Event}
use Rattle.bpf_model.specs.declared.event.Event.TheVariants.{Advance, Reap}
use Rattle.bpf_model.specs.declared.event.Answer.{Answer}
use Rattle.bpf_model.specs.declared.event.Answer.TheVariants.{Reaped}
use Rattle.bpf_model.specs.Section.{Section}
use Rattle.bpf_model.specs.Element.{Unlinked, Reclaimed, HasLife}
use Rattle.bpf_model.specs.Machine.{Machine, open_sections}
use Rattle.bpf_model.specs.Schedule.{Schedule, DoesScheduled, IsScheduledHistory}
use Rattle.bpf_model.specs.History.{last_of}

-- Event k is an advance, and no section is open at it.
pub record IsQuietAdvance (states : List Machine) (events : List Event) (k : ℕ) (m : Machine)
    : Type 0 where
  pub at : slice_get events k ≡ Some Advance
  pub state : slice_get states k ≡ Some m
  pub quiet : open_sections m.runs ≡ []

-- The states are the one before the first event and those after each. From the second quiet advance
-- on, a reap finds nothing only when no element that was unlinked before the first is still kept.
abbrev pub Drains : List Machine → List Event → List Answer → Type 0
Drains states events answers =
    (i j k n : ℕ) (first second later : Machine) (since : List Section) →
    IsQuietAdvance states events i first → IsQuietAdvance states events j second → i < j →
    slice_get events k ≡ Some Reap → slice_get answers k ≡ Some (Reaped None) →
    slice_get states k ≡ Some later → j < k →
    HasLife first.store.elements n (Unlinked since) → HasLife later.store.elements n Reclaimed

-- the machine's states in a history with this runtime's choices
abbrev pub machines : List Schedule → List Machine
machines states = map (λ s. s.machine) states

module _ {World : Type 0} where
  -- The answer to one event is a step with this runtime's choices.
  abbrev pub AnswersAsScheduled : (World → Schedule → Type 0) → World → Event → Answer → World →
      Type 0
  AnswersAsScheduled Tracks old event answer new =
      (s : Schedule) → Tracks old s →
      (next : Schedule) × DoesScheduled s event answer next × Tracks new next

  -- The answers are those of a history with this runtime's choices, in which the drain law holds,
  -- and the world tracks its last state.
  abbrev pub AreScheduledAnswers : (World → Schedule → Type 0) → World → List Event → List Answer →
      World → Type 0
  AreScheduledAnswers Tracks old events answers new =
      (s : Schedule) → Tracks old s →
      (states : List Schedule) × IsScheduledHistory s events answers states
      × Drains (machines (s ∷ states)) events answers × Tracks new (last_of s states)
