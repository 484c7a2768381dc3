-- What the answers of a world are told as.
use Rattle.std.specs.Prelude.{ℕ, List, Some, None}
use Rattle.bpf_model.specs.declared.event.Answer.{Answer}
use Rattle.bpf_model.specs.declared.event.Answer.TheVariants as answers
use Rattle.bpf_model.specs.EventNumbers.{event_refusal_number}
use Rattle.script_lines.specs.declared.reply.Reply.{Reply}
use Rattle.script_lines.specs.declared.reply.Reply.TheVariants as replies
use Rattle.control.specs.Names.{map_name}

-- a refusal without a slot
abbrev pub refused : ℕ → Reply
refused code = replies.Refused code None

-- the reply to an answer of the world, whose maps have these names
abbrev pub reply_to : List (List ℕ) → Answer → Reply
reply_to names (answers.Started run) = replies.Run run
reply_to names answers.Moved = replies.Moved
reply_to names (answers.Exited value) = replies.Exit value
reply_to names (answers.Ret ret) = replies.Ret ret
reply_to names (answers.Found (Some value)) = replies.Value value
reply_to names (answers.Found None) = replies.Nothing
reply_to names answers.Done = replies.Done
reply_to names (answers.Reaped (Some reaped)) =
    replies.Reaped (map_name names reaped.map) reaped.key reaped.given
reply_to names (answers.Reaped None) = replies.Nothing
reply_to names (answers.Refused refusal) = refused (event_refusal_number refusal)
