-- The journal: entries that replay, as a history of the machine, from a base state in which no run
-- slot is occupied.
use Rattle.std.specs.Prelude.{◌≡◌, ℕ, ◌≤◌, List, Option, None, length, map}
use Rattle.bpf_model.specs.declared.entry.Entry.{Entry}
use Rattle.bpf_model.specs.declared.event.Event.{Event}
use Rattle.bpf_model.specs.declared.event.Answer.{Answer}
use Rattle.bpf_model.specs.Machine.{Machine, run_at}
use Rattle.bpf_model.specs.Real.{AreReal}
use Rattle.bpf_model.specs.History.{IsHistory, last_of}

-- Some history of the machine from m has these answers to these events, and ends in new.
abbrev pub HasHistoryTo : Machine → List Event → List Answer → Machine → Type 0
HasHistoryTo m events answers new =
    (states : List Machine) × IsHistory m events answers states × (last_of m states ≡ new)

abbrev pub events_of : List Entry → List Event
events_of entries = map (λ e. e.event) entries

abbrev pub answers_of : List Entry → List Answer
answers_of entries = map (λ e. e.answer) entries

-- no run slot is occupied, of the machine or of what a world shows of it
abbrev pub AreFree : {A : Type 0} → List (Option A) → Type 0
AreFree runs = (r : ℕ) → run_at runs r ≡ None

-- no run slot of the machine is occupied
abbrev pub HasNoRunsOnMachine : Machine → Type 0
HasNoRunsOnMachine m = AreFree m.runs

-- From the base, a state without runs, the entries' events with the entries' answers lead to this
-- state; there are no more entries than the limit.
pub record ReplaysOnMachine (limit : ℕ) (base : Machine) (entries : List Entry) (m : Machine)
    : Type 0 where
  pub quiet : HasNoRunsOnMachine base
  pub short : length entries ≤ limit
  pub real : AreReal (events_of entries)
  pub replay : HasHistoryTo base (events_of entries) (answers_of entries) m
