-- What `script` writes, of which input.
use Rattle.std.specs.Prelude.{ℕ, List, Option}
use Rattle.std.specs.Io.KnownBytes.{Appends}
use Rattle.control.specs.Histories.{History, Continues, new_history}
use Rattle.control.specs.Sessions.{IsNoCommand}
use Rattle.script_stream.specs.Answered.{Answered, AnsweredBefore}
use Rattle.script_stream.specs.Lines.{lines_of}

-- `script` adds the answers to all lines of the input, one after another. Their events are one
-- history of the machine.
pub record AnswersAll (old new : Option (List ℕ)) (bytes : List ℕ) : Type 0 where
  pub text : List ℕ
  pub last : History
  pub answered : Answered Continues new_history (lines_of bytes) text last
  pub written : Appends old new text

-- A line of the input is too long or no command. `script` adds the answers to the lines before,
-- and nothing else.
pub record AnswersBefore (old new : Option (List ℕ)) (bytes : List ℕ) : Type 0 where
  pub line : ℕ
  pub text : List ℕ
  pub answered : AnsweredBefore Continues IsNoCommand new_history bytes line text
  pub written : Appends old new text
