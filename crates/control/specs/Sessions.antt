-- What each command is replied, the events that happen, and the state of the script that it leaves.
use Rattle.std.specs.Prelude.{◌≡◌, ℕ, List, [], ◌∷◌, Option, Some, None, Result, Ok, Err}
use Rattle.std.specs.List.{flat_map}
use Rattle.bpf_model.specs.declared.event.Event.{Event}
use Rattle.bpf_model.specs.Refines.{TracksSchedule}
use Rattle.bpf_model.specs.Schedule.{start_schedule}
use Rattle.bpf_model.specs.Machine.{Loaded}
use Rattle.bpf_model.specs.View.{start_view, MapView}
use Rattle.script_lines.specs.ReplyText.{reply_text}
use Rattle.script_lines.specs.Lines.{line_says}
use Rattle.script_lines.specs.declared.command.BadLine.{BadLine}
use Rattle.script_lines.specs.declared.command.ScriptCommand.{ScriptCommand}
use Rattle.script_lines.specs.declared.command.ScriptCommand.TheVariants as commands
use Rattle.script_lines.specs.declared.reply.Reply.{Reply}
use Rattle.control.specs.Setups.{SetupView, shapes_made, no_maps_or_programs}
use Rattle.control.specs.MapAndLoad.{MapReplies, LoadReplies, shape_of_numbers}
use Rattle.control.specs.declared.live.Live.{Live}
use Rattle.control.specs.Lives.{LiveReplies}
use Rattle.control.specs.declared.session.Session.{Session}
use Rattle.control.specs.declared.session.Session.TheVariants as sessions

-- the world of these maps and programs, in which nothing has happened
abbrev pub sealed : SetupView → Live
sealed s = record { world = start_view s.registry.names (shapes_made s) s.programs }

-- no maps and no programs yet
abbrev pub new_session : Session
new_session = sessions.Setup no_maps_or_programs

-- what is there, where the world may have been made
abbrev pub now_at : SetupView → Option Live → Session
now_at setup None = sessions.Setup setup
now_at setup (Some live) = sessions.Live live

-- the names and the maps that there are
abbrev pub names_in : Session → List (List ℕ)
names_in (sessions.Setup setup) = setup.registry.names
names_in (sessions.Live live) = live.world.names

abbrev pub maps_in : Session → List MapView
maps_in (sessions.Setup setup) = setup.registry.maps
maps_in (sessions.Live live) = live.world.maps

-- the programs that there are
abbrev pub loaded_in : Session → List Loaded
loaded_in (sessions.Setup setup) = setup.programs
loaded_in (sessions.Live live) = live.world.programs

-- The world of these maps and programs tracks the start of the machine that has them.
abbrev pub TracksStart : SetupView → Type 0
TracksStart s = TracksSchedule (sealed s).world (start_schedule (shapes_made s) s.programs)

-- A command that a world is for, once it is there.
abbrev pub WorldReplies : Live → ScriptCommand → List Event → List Reply → Session → Type 0
WorldReplies old command events replies new =
    (live : Live) × (r : LiveReplies old command replies live) × (events ≡ r.served.events)
    × (new ≡ sessions.Live live)

-- one reply and no event, while maps and programs are being made
abbrev pub RepliesOnce : (Reply → SetupView → Type 0) → List Event → List Reply → Session → Type 0
RepliesOnce Says events replies new =
    (reply : Reply) × (made : SetupView) × Says reply made × (events ≡ [])
    × (replies ≡ reply ∷ []) × (new ≡ sessions.Setup made)

-- While maps and programs are being made: `map` and `load` make them, and any other command makes
-- the world, which it is for.
abbrev pub SetupReplies : SetupView → ScriptCommand → List Event → List Reply → Session → Type 0
SetupReplies old (commands.Map name shape) events replies new =
    RepliesOnce (MapReplies old name (shape_of_numbers shape)) events replies new
SetupReplies old (commands.Load ctx_len code maps) events replies new =
    RepliesOnce (LoadReplies old ctx_len code maps) events replies new
SetupReplies old command events replies new =
    TracksStart old × WorldReplies (sealed old) command events replies new

abbrev pub SessionReplies : Session → ScriptCommand → List Event → List Reply → Session → Type 0
SessionReplies (sessions.Setup old) command events replies new =
    SetupReplies old command events replies new
SessionReplies (sessions.Live old) command events replies new =
    WorldReplies old command events replies new

-- A line that says nothing is answered nothing, and a command by the text of its replies.
abbrev pub AnswersCommand : Result (Option ScriptCommand) BadLine → Session → List Event → List ℕ →
    Session → Type 0
AnswersCommand (Ok None) old events text new = (events ≡ []) × (text ≡ []) × (new ≡ old)
AnswersCommand (Ok (Some command)) old events text new =
    (replies : List Reply) × SessionReplies old command events replies new
    × (text ≡ flat_map reply_text replies)
AnswersCommand (Err bad) old events text new = ⊥

-- What a line is answered in a state of the script, the events that happen, and the state that it
-- leaves.
abbrev pub LineAnswers : Session → List ℕ → List Event → List ℕ → Session → Type 0
LineAnswers old line events text new = AnswersCommand (line_says line) old events text new

-- a line that is neither a command nor says nothing
abbrev pub IsNoCommand : List ℕ → Type 0
IsNoCommand line = line_says line ≡ Err (record {})
