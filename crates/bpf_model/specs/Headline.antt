-- The four parts of the main theorem, over whole histories of the machine: its answers, that it is
-- never stuck, that its runs exit in time, and that elements are reclaimed late. What a world keeps
-- is a type of its own here, with the relation to the machine's states that it tracks.
use Rattle.std.specs.Prelude.{◌≡◌, ℕ, suc, ◌+◌, ◌<◌, ◌==◌, Bool, false, List, ◌∷◌, Option, Some}
use Rattle.std.specs.Prelude.{None, slice_get, length, take, if◌then◌else◌}
use Rattle.bpf_model.specs.declared.event.Event.{Event}
use Rattle.bpf_model.specs.declared.event.Event.TheVariants.{Start, Step}
use Rattle.bpf_model.specs.declared.event.Answer.{Answer}
use Rattle.bpf_model.specs.declared.event.Answer.TheVariants.{Started, Moved}
use Rattle.bpf_model.specs.Section.{Section, AllEnded}
use Rattle.bpf_model.specs.Element.{Linked, Unlinked, Reclaimed, HasLife}
use Rattle.bpf_model.specs.Machine.{Run, Machine, open_sections, run_at}
use Rattle.bpf_model.specs.MachineStep.{NeverStuck}
use Rattle.bpf_model.specs.Event.{DoesEvent}
use Rattle.bpf_model.specs.History.{IsHistory, last_of, AllStates}

-- one, where the run went on
abbrev pub moved_once : Answer → ℕ
moved_once Moved = 1
moved_once answer = 0

abbrev pub is_start_in : ℕ → Answer → Bool
is_start_in r (Started q) = q == r
is_start_in r answer = false

abbrev pub moves_after : ℕ → ℕ → Event → Answer → ℕ
moves_after r n (Step q) answer = if q == r then n + moved_once answer else n
moves_after r n (Start prog ctx) answer = if is_start_in r answer then 0 else n
moves_after r n event answer = n

-- How many moves the run in run slot r has answered since it started there: by the answers alone,
-- from a number on for a run that was there before the first of them.
abbrev pub moves_of : ℕ → ℕ → List Event → List Answer → ℕ
moves_of r n (event ∷ events) (answer ∷ answers) =
    moves_of r (moves_after r n event answer) events answers
moves_of r n events answers = n

abbrev pub moved_by : Option Run → ℕ
moved_by None = 0
moved_by (Some run) = run.moved

-- A run that has answered Moved k times is one of a program of more than k instructions; a wide
-- instruction counts once.
abbrev pub ExitsInTime : Machine → List Event → List Answer → List Machine → Type 0
ExitsInTime m events answers states =
    (j r : ℕ) (later : Machine) (run : Run) → slice_get (m ∷ states) j ≡ Some later →
    run_at later.runs r ≡ Some run →
    moves_of r (moved_by (run_at m.runs r)) (take j events) (take j answers)
    < length run.program.code

-- The element is unlinked in a state between two others.
pub record IsUnlinkedBetween (states : List Machine) (i j n : ℕ) : Type 0 where
  pub index : ℕ
  pub state : Machine
  pub since : List Section
  pub after : i < index
  pub before : index < j
  pub there : slice_get states index ≡ Some state
  pub life : HasLife state.store.elements n (Unlinked since)

-- An element is unlinked before it is reclaimed; it keeps the sections that are open at that
-- moment, and it is reclaimed only when each of them has ended.
pub record ReclaimedLate (states : List Machine) : Type 0 where
  -- where it is linked in one state and unlinked in the next, it keeps the sections that are open
  -- in the first
  pub keeps : (i n : ℕ) (before after : Machine) (since : List Section) →
      slice_get states i ≡ Some before
      → slice_get states (suc i) ≡ Some after →
      HasLife before.store.elements n Linked → HasLife after.store.elements n (Unlinked since) →
      since ≡ open_sections before.runs
  -- where it is unlinked in one state and reclaimed in a later one, each section that it keeps has
  -- ended there
  pub ended : (i j n : ℕ) (m later : Machine) (since : List Section) → slice_get states i ≡ Some m
      → slice_get states j ≡ Some later → i < j →
      HasLife m.store.elements n (Unlinked since) → HasLife later.store.elements n Reclaimed
      → AllEnded since (open_sections later.runs)
  -- where it is linked in one state and reclaimed in a later one, it is unlinked in a state between
  -- them
  pub between : (i j n : ℕ) (m later : Machine) → slice_get states i ≡ Some m →
      slice_get states j ≡ Some later → i < j →
      HasLife m.store.elements n Linked → HasLife later.store.elements n Reclaimed →
      IsUnlinkedBetween states i j n

module _ {World : Type 0} where
  -- The answer to one event is a step of each machine that the world tracked, to one that it tracks
  -- afterwards.
  abbrev pub AnswersAsMachine : (World → Machine → Type 0) → World → Event → Answer → World → Type 0
  AnswersAsMachine Tracks old event answer new =
      (m : Machine) → Tracks old m →
      (next : Machine) × DoesEvent m event answer next × Tracks new next

  -- The answers are those of a history of the machine, and the world tracks its last state.
  abbrev pub AreMachineAnswers : (World → Machine → Type 0) → World → List Event → List Answer →
      World → Type 0
  AreMachineAnswers Tracks old events answers new =
      (m : Machine) → Tracks old m →
      (states : List Machine) × IsHistory m events answers states
      × Tracks new (last_of m states)

  -- In every history of the machine with these answers, each run that hasn't ended has a step, in
  -- each state.
  abbrev pub AreNeverStuck : (World → Machine → Type 0) → World → List Event → List Answer → Type 0
  AreNeverStuck Tracks old events answers =
      (m : Machine) → Tracks old m → (states : List Machine) → IsHistory m events answers states
      → AllStates NeverStuck (m ∷ states)

  abbrev pub AllExitInTime : (World → Machine → Type 0) → World → List Event → List Answer → Type 0
  AllExitInTime Tracks old events answers =
      (m : Machine) → Tracks old m → (states : List Machine) → IsHistory m events answers states
      → ExitsInTime m events answers states

  abbrev pub AreReclaimedLate : (World → Machine → Type 0) → World → List Event → List Answer →
      Type 0
  AreReclaimedLate Tracks old events answers =
      (m : Machine) → Tracks old m → (states : List Machine) → IsHistory m events answers states →
      ReclaimedLate (m ∷ states)
