-- What a line of a script says.
use Rattle.std.specs.Prelude.{ℕ, ◌-◌, ◌==◌, Bool, true, ◌||◌, nat_lt, if◌then◌else◌, List, [], ◌∷◌}
use Rattle.std.specs.Prelude.{length, slice_index, Option, Some, None, Result, Ok, Err}
use Rattle.script_stream.specs.Answered.{longest_line}
use Rattle.script_lines.specs.Words.{words_of}
use Rattle.script_lines.specs.Grammar.{command_of}
use Rattle.script_lines.specs.declared.command.BadLine.{BadLine}
use Rattle.script_lines.specs.declared.command.ScriptCommand.{ScriptCommand}

-- a line that is empty or begins with `#`, which is byte 35, says nothing
abbrev pub is_silent : List ℕ → Bool
is_silent [] = true
is_silent (b ∷ line) = b == 35

-- a space, which is byte 32, at the beginning or the end
abbrev pub has_outer_space : List ℕ → Bool
has_outer_space line = slice_index line 0 == 32 || slice_index line (length line - 1) == 32

abbrev pub command_or_bad : Option ScriptCommand → Result (Option ScriptCommand) BadLine
command_or_bad None = Err (record {})
command_or_bad (Some command) = Ok (Some command)

-- a line, without the line feed that ends it
abbrev pub line_says : List ℕ → Result (Option ScriptCommand) BadLine
line_says line =
    if nat_lt longest_line (length line) then Err (record {})
    else if is_silent line then Ok None
    else if has_outer_space line then Err (record {})
    else command_or_bad (command_of (words_of line))
