-- What a command is replied once there is a world.
use Rattle.std.specs.Prelude.{◌≡◌, ℕ, List, ◌++◌, Option}
use Rattle.std.specs.List.{flat_map}
use Rattle.bpf_model.specs.declared.event.Event.{Event}
use Rattle.bpf_model.specs.Drain.{AreScheduledAnswers}
use Rattle.bpf_model.specs.Real.{AreReal}
use Rattle.bpf_model.specs.Refines.{TracksSchedule}
use Rattle.bpf_model.specs.View.{WorldView}
use Rattle.world_laws.specs.Reacting.{full_reactions}
use Rattle.world_laws.specs.Invariant.{IsWorld}
use Rattle.script_lines.specs.ReplyText.{reply_text}
use Rattle.script_lines.specs.declared.command.ScriptCommand.{ScriptCommand}
use Rattle.script_lines.specs.declared.reply.Reply.{Reply}
use Rattle.control.specs.declared.asked.Asked.{Asked}
use Rattle.control.specs.Questions.{IsAsked}
use Rattle.control.specs.declared.live.Live.{Live}
use Rattle.control.specs.declared.refusal.LineRefusal.{LineRefusal}
use Rattle.control.specs.Refusals.{AreTold}
use Rattle.control.specs.Replies.{Replies}

-- These events happen in a world of the runtime, and leave the other. With their answers they are a
-- history of the machine with the runtime's choices.
pub record Happen (w : WorldView) (events : List Event) (new : WorldView) : Type 0 where
  pub world : IsWorld w
  pub real : AreReal events
  pub new_is : new ≡ (full_reactions w events).1
  pub machine : AreScheduledAnswers TracksSchedule w events (full_reactions w events).0 new

-- What is asked is served by these events, which happen, and these are the replies.
pub record AskedReplies (old : Live) (asked : Asked) (replies : List Reply) (new : Live)
    : Type 0 where
  pub events : List Event
  pub happened : Happen old.world events new.world
  pub replied : Replies old.world asked events replies new.world

-- The world is asked what the command says of its maps' names, and these are the replies.
pub record LiveReplies (old : Live) (command : ScriptCommand) (replies : List Reply) (new : Live)
    : Type 0 where
  pub asked : Asked
  pub is_asked : IsAsked old.world.names command asked
  pub served : AskedReplies old asked replies new

-- What is asked is replied, and the text of the replies is added, which tell this refusal.
pub record IsReplied (old : Live) (asked : Asked) (before : List ℕ) (refusal : Option LineRefusal)
    (after : List ℕ) (new : Live) : Type 0 where
  pub replies : List Reply
  pub served : AskedReplies old asked replies new
  pub told : AreTold refusal replies
  pub text : after ≡ before ++ flat_map reply_text replies
