-- A script's lines as one history of the machine.
use Rattle.std.specs.Prelude.{◌≡◌, ℕ, List, [], ◌++◌}
use Rattle.bpf_model.specs.declared.event.Event.{Event}
use Rattle.control.specs.Setups.{SetupView, no_maps_or_programs}
use Rattle.control.specs.Lives.{Happen}
use Rattle.control.specs.Sessions.{LineAnswers, new_session, sealed, TracksStart}
use Rattle.control.specs.declared.session.Session.{Session}
use Rattle.control.specs.declared.session.Session.TheVariants as sessions

-- the state of a script, the maps and programs that it has made, and all events that have happened
pub record History : Type 0 where
  pub session : Session
  pub made : SetupView
  pub events : List Event

abbrev pub new_history : History
new_history = record { session = new_session; made = no_maps_or_programs; events = [] }

-- The events are one history of the machine, from its start with these maps and programs.
abbrev pub RunsTo : SetupView → List Event → Session → Type 0
RunsTo made events (sessions.Setup setup) = (made ≡ setup) × (events ≡ [])
RunsTo made events (sessions.Live live) =
    TracksStart made × Happen (sealed made).world events live.world

-- Once there is a world, nothing more is made.
abbrev pub StaysMade : Session → SetupView → SetupView → Type 0
StaysMade (sessions.Setup setup) old new = Unit {0}
StaysMade (sessions.Live live) old new = new ≡ old

-- One more line is answered with this text. Its events come behind those before, and all of them
-- are one history.
abbrev pub Continues : History → List ℕ → List ℕ → History → Type 0
Continues old line text new =
    (events : List Event) × LineAnswers old.session line events text new.session
    × (new.events ≡ old.events ++ events)
    × StaysMade new.session old.made new.made × RunsTo new.made new.events new.session
