-- The events of a script's lines are one history of the machine.
use Rattle.bpf_model.proofs.Prelude.{◌≡◌, ◌∙◌, ℕ, List, [], ◌∷◌, ◌++◌, Option, Some, None, sym, ap, subst, refl, Result, Ok, Err}
use Rattle.model_laws.proofs.Prelude.{Event}
use Rattle.std.proofs.Common.{append-nil}
use Rattle.script_lines.specs.Lines.{line_says}
use Rattle.script_lines.specs.declared.command.BadLine.{BadLine}
use Rattle.script_lines.specs.declared.command.ScriptCommand.{ScriptCommand}
use Rattle.script_lines.specs.declared.command.ScriptCommand.TheVariants as commands
use Rattle.script_lines.specs.declared.reply.Reply.{Reply}
use Rattle.control.specs.MapAndLoad.{MapReplies, LoadReplies, shape_of_numbers}
use Rattle.control.specs.Setups.{SetupView}
use Rattle.script_stream.specs.Answered.{Answered, FailsWith}
use Rattle.script_stream.specs.declared.fault.ScriptFault.{ScriptFault}
use Rattle.control.specs.declared.live.Live.{Live}
use Rattle.control.specs.Lives.{Happen}
use Rattle.control.proofs.Happenings.{happen_more}
use Rattle.control.specs.Histories.{History, Continues, RunsTo, StaysMade}
use Rattle.control.specs.Sessions.{AnswersCommand, LineAnswers, RepliesOnce, SessionReplies, SetupReplies, WorldReplies, TracksStart, sealed}
use Rattle.control.specs.declared.session.Session.{Session}
use Rattle.control.specs.declared.session.Session.TheVariants as sessions

-- the line is answered with this text, by whatever events
abbrev pub IsAnswered : Session → List ℕ → List ℕ → Session → Type 0
IsAnswered old line text new = (events : List Event) × LineAnswers old line events text new

-- what is made after a line, and that all events are one history
abbrev Onward : SetupView → List Event → Session → Type 0
Onward made events new = (next : SetupView) × StaysMade new made next × RunsTo next events new

stays : (s : Session) (made : SetupView) → StaysMade s made made
stays (sessions.Setup setup) made = tt
stays (sessions.Live live) made = refl

-- no event
same_run : (made : SetupView) (before events : List Event) (old new : Session) → events ≡ [] → new ≡ old →
    RunsTo made before old → Onward made (before ++ events) new
same_run made before events old new e n r =
    let nothing : before ++ events ≡ before = ap (λ (xs : List Event). before ++ xs) e ∙ append-nil before in
    (made, stays new made, subst (λ (xs : List Event). RunsTo made xs new) (sym nothing) (subst (λ (s : Session). RunsTo made before s) (sym n) r))

-- in a world
world_runs : (made : SetupView) (before events : List Event) (old : Live) (command : ScriptCommand) (replies : List Reply)
    (new : Session) → TracksStart made → Happen (sealed made).world before old.world →
    WorldReplies old command events replies new → Onward made (before ++ events) new
world_runs made before events old command replies new starts h (live, r, e, n) =
    let more = happen_more (sealed made).world old.world live.world before r.served.events h r.served.happened in
    let there : Onward made (before ++ events) (sessions.Live live) = (
      made,
      refl,
      (
        starts,
        subst (λ (xs : List Event). Happen (sealed made).world (before ++ xs) live.world)
            (sym e) more,
      ),
    ) in
    subst (λ (s : Session). Onward made (before ++ events) s) (sym n) there

-- in a world that is made
first_runs : (made : SetupView) (before events : List Event) (old : SetupView) (command : ScriptCommand)
    (replies : List Reply) (new : Session) → made ≡ old → before ≡ [] → TracksStart old →
    WorldReplies (sealed old) command events replies new → Onward made (before ++ events) new
first_runs made before events old command replies new m b starts (live, r, e, n) =
    let there : Onward made (before ++ events) (sessions.Live live) = (
      old,
      sym m,
      (
        starts,
        subst (λ (xs : List Event). Happen (sealed old).world xs live.world)
            (sym e ∙ sym (ap (λ (xs : List Event). xs ++ events) b)) r.served.happened,
      ),
    ) in
    subst (λ (s : Session). Onward made (before ++ events) s) (sym n) there

-- before there is a world
once_runs : (made : SetupView) (before events : List Event) (Says : Reply → SetupView → Type 0) (replies : List Reply)
    (new : Session) → before ≡ [] → RepliesOnce Says events replies new → Onward made (before ++ events) new
once_runs made before events Says replies new b (reply, next, says, e, s, n) =
    let there : Onward made (before ++ events) (sessions.Setup next) = (next, tt, (refl, ap (λ (xs : List Event). before ++ xs) e ∙ (append-nil before ∙ b))) in
    subst (λ (s : Session). Onward made (before ++ events) s) (sym n) there

setup_runs : (made : SetupView) (before events : List Event) (old : SetupView) (command : ScriptCommand)
    (replies : List Reply) (new : Session) → made ≡ old → before ≡ [] → SetupReplies old command events replies new →
    Onward made (before ++ events) new
setup_runs made before events old (commands.Map name shape) replies new m b r =
    once_runs made before events (MapReplies old name (shape_of_numbers shape)) replies new b r
setup_runs made before events old (commands.Load ctx_len code names) replies new m b r =
    once_runs made before events (LoadReplies old ctx_len code names) replies new b r
setup_runs made before events old (commands.Put name key value flags) replies new m b r =
    first_runs made before events old (commands.Put name key value flags) replies new m b r.0 r.1
setup_runs made before events old (commands.Get name key) replies new m b r = first_runs made before events old (commands.Get name key) replies new m b r.0 r.1
setup_runs made before events old (commands.Del name key) replies new m b r = first_runs made before events old (commands.Del name key) replies new m b r.0 r.1
setup_runs made before events old (commands.Start prog ctx) replies new m b r =
    first_runs made before events old (commands.Start prog ctx) replies new m b r.0 r.1
setup_runs made before events old (commands.Step run count) replies new m b r =
    first_runs made before events old (commands.Step run count) replies new m b r.0 r.1
setup_runs made before events old commands.Advance replies new m b r = first_runs made before events old commands.Advance replies new m b r.0 r.1
setup_runs made before events old commands.Reap replies new m b r = first_runs made before events old commands.Reap replies new m b r.0 r.1
setup_runs made before events old (commands.Drop run) replies new m b r = first_runs made before events old (commands.Drop run) replies new m b r.0 r.1
setup_runs made before events old commands.Stat replies new m b r = first_runs made before events old commands.Stat replies new m b r.0 r.1
setup_runs made before events old (commands.Dump name) replies new m b r = first_runs made before events old (commands.Dump name) replies new m b r.0 r.1

session_runs : (made : SetupView) (before events : List Event) (old : Session) (command : ScriptCommand)
    (replies : List Reply) (new : Session) → RunsTo made before old → SessionReplies old command events replies new →
    Onward made (before ++ events) new
session_runs made before events (sessions.Setup old) command replies new (m, b) r = setup_runs made before events old command replies new m b r
session_runs made before events (sessions.Live old) command replies new (starts, h) r = world_runs made before events old command replies new starts h r

says_runs : (made : SetupView) (before events : List Event) (says : Result (Option ScriptCommand) BadLine) (old : Session)
    (text : List ℕ) (new : Session) → RunsTo made before old → AnswersCommand says old events text new →
    Onward made (before ++ events) new
says_runs made before events (Ok None) old text new r (e, t, n) = same_run made before events old new e n r
says_runs made before events (Ok (Some command)) old text new r (replies, s, t) = session_runs made before events old command replies new r s
says_runs made before events (Err bad) old text new r a = absurd a

-- The lines of a script, with what is made and the events from its beginning on.
abbrev pub history : Session → SetupView → List Event → History
history session made events = record { session = session; made = made; events = events }

pub histories : (old : Session) (made : SetupView) (before : List Event) (lines : List (List ℕ)) (text : List ℕ)
    (new : Session) → RunsTo made before old → Answered IsAnswered old lines text new → (last : SetupView) ×
    (events : List Event) × Answered Continues (history old made before) lines text (history new last events)
histories old made before [] text new r (t, n) = (made, before, (t, λ i. history (n i) made before))
histories old made before (line ∷ lines) text new r (first, rest, mid, (events, a), more, e) =
    let there = says_runs made before events (line_says line) old first mid r a in
    let later = histories mid there.0 (before ++ events) lines rest new there.2 more in
    (later.0, later.1, (first, rest, history mid there.0 (before ++ events), (events, a, refl, there.1, there.2), later.2, e))

-- How a script fails, told of other states: what is answered from this state on, is answered from
-- the other.
fails_by : {S T : Type 0} (answers : S → List ℕ → List ℕ → S → Type 0) (others : T → List ℕ → List ℕ → T → Type 0)
    (is_bad : List ℕ → Type 0) (old : S) (start : T) (read written : List ℕ) (fault : ScriptFault)
    → ((lines : List (List ℕ)) (text : List ℕ) (new : S) → Answered answers old lines text new → (last : T) ×
    Answered others start lines text last) → FailsWith answers is_bad old read written fault →
    FailsWith others is_bad start read written fault
fails_by answers others is_bad old start read written fault lifts f = record {
  begun = let all = lifts f.begun.first (written ++ f.begun.more) f.begun.new f.begun.answered in record {
    first = f.begun.first;
    others = f.begun.others;
    lines = f.begun.lines;
    more = f.begun.more;
    new = all.0;
    answered = all.1;
  };
  before = λ line e. let b = f.before line e in let all = lifts b.good written b.new b.answered in record {
    good = b.good;
    bad = b.bad;
    others = b.others;
    lines = b.lines;
    number = b.number;
    is = b.is;
    new = all.0;
    answered = all.1;
  };
}

pub fails_at : (is_bad : List ℕ → Type 0) (old : Session) (made : SetupView) (past : List Event)
    (read written : List ℕ) (fault : ScriptFault) → RunsTo made past old →
    FailsWith IsAnswered is_bad old read written fault →
    FailsWith Continues is_bad (history old made past) read written fault
fails_at is_bad old made past read written fault r f =
    fails_by IsAnswered Continues is_bad old (history old made past) read written fault
    (λ lines text new a. let all = histories old made past lines text new r a in (history new all.0 all.1, all.2))
    f
