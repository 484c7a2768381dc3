-- The commands, as words.
use Rattle.std.specs.Prelude.{ℕ, nat_le, if◌then◌else◌, List, [], ◌∷◌, length, codes, bytes_eq}
use Rattle.std.specs.Prelude.{Option, Some, None}
use Rattle.script_lines.specs.Words.{number_in, count_in, hex_bytes_in, key_bytes_in}
use Rattle.script_lines.specs.Words.{value_bytes_in, context_bytes_in}
use Rattle.script_lines.specs.declared.command.ScriptCommand.{ScriptCommand}
use Rattle.bpf_model.specs.Value.{◌>>=◌}
use Rattle.script_lines.specs.declared.command.ScriptCommand.TheVariants as commands
use Rattle.bpf_model.specs.declared.limits.MapKind.TheVariants.{Hash, Array}
use Rattle.bpf_model.specs.declared.limits.TheConstants.{MAX_MAPS, INDEX_BYTES}
use Rattle.script_lines.specs.declared.command.ShapeNumbers.{ShapeNumbers}
use Rattle.script_lines.specs.declared.verb.Verb.{Verb}
use Rattle.script_lines.specs.declared.verb.Verb.TheVariants as verbs

-- the word that a command begins with
abbrev pub verb_name : Verb → List ℕ
verb_name verbs.Map = codes "map"
verb_name verbs.Load = codes "load"
verb_name verbs.Put = codes "put"
verb_name verbs.Get = codes "get"
verb_name verbs.Del = codes "del"
verb_name verbs.Start = codes "start"
verb_name verbs.Step = codes "step"
verb_name verbs.Advance = codes "advance"
verb_name verbs.Reap = codes "reap"
verb_name verbs.Drop = codes "drop"
verb_name verbs.Stat = codes "stat"
verb_name verbs.Dump = codes "dump"

-- the verb that the word is, of twelve
abbrev pub verb_of : List ℕ → Option Verb
verb_of word =
    if bytes_eq word (codes "map") then Some verbs.Map
    else if bytes_eq word (codes "load") then Some verbs.Load
    else if bytes_eq word (codes "put") then Some verbs.Put
    else if bytes_eq word (codes "get") then Some verbs.Get
    else if bytes_eq word (codes "del") then Some verbs.Del
    else if bytes_eq word (codes "start") then Some verbs.Start
    else if bytes_eq word (codes "step") then Some verbs.Step
    else if bytes_eq word (codes "advance") then Some verbs.Advance
    else if bytes_eq word (codes "reap") then Some verbs.Reap
    else if bytes_eq word (codes "drop") then Some verbs.Drop
    else if bytes_eq word (codes "stat") then Some verbs.Stat
    else if bytes_eq word (codes "dump") then Some verbs.Dump
    else None

-- `KEY VALUE ENTRIES SPARE REUSE`: the shape of a hash map, from the word KEY and those behind it
abbrev pub hash_shape_in : List ℕ → List (List ℕ) → Option ShapeNumbers
hash_shape_in key (value ∷ entries ∷ spare ∷ reuse ∷ []) = do
  key_len ← number_in key
  value_len ← number_in value
  most ← number_in entries
  further ← number_in spare
  limit ← number_in reuse
  Some (record {
    kind = Hash;
    key_len = key_len;
    value_len = value_len;
    entries = most;
    spare = further;
    reuse_limit = limit;
  })
hash_shape_in key _ = None

-- `array VALUE ENTRIES`: the shape of an array, from the words behind `array`. Its keys are indices;
-- it has no further map slots, and uses each once.
abbrev pub array_shape_in : List (List ℕ) → Option ShapeNumbers
array_shape_in (value ∷ entries ∷ []) = do
  value_len ← number_in value
  most ← number_in entries
  Some (record {
    kind = Array;
    key_len = INDEX_BYTES;
    value_len = value_len;
    entries = most;
    spare = 0;
    reuse_limit = 1;
  })
array_shape_in _ = None

-- The shape of a map. The word `array` is no number.
abbrev pub shape_in : List (List ℕ) → Option ShapeNumbers
shape_in [] = None
shape_in (word ∷ words) =
    if bytes_eq word (codes "array") then array_shape_in words else hash_shape_in word words

-- Each command from the words behind its verb. A word for a name may be any.

-- `map NAME KEY VALUE ENTRIES SPARE REUSE`, `map NAME array VALUE ENTRIES`
abbrev pub map_command : List (List ℕ) → Option ScriptCommand
map_command [] = None
map_command (name ∷ words) = do
  shape ← shape_in words
  Some (commands.Map name shape)

-- `load CTXLEN BYTES [NAME ..]`
abbrev pub load_command : List (List ℕ) → Option ScriptCommand
load_command (ctx ∷ bytes ∷ names) = do
  ctx_len ← number_in ctx
  code ← hex_bytes_in bytes
  if nat_le (length names) MAX_MAPS then Some (commands.Load ctx_len code names) else None
load_command _ = None

-- `put NAME KEY VALUE FLAGS`
abbrev pub put_command : List (List ℕ) → Option ScriptCommand
put_command (name ∷ key ∷ value ∷ flags ∷ []) = do
  k ← key_bytes_in key
  v ← value_bytes_in value
  n ← number_in flags
  Some (commands.Put name k v n)
put_command _ = None

-- `get NAME KEY`
abbrev pub get_command : List (List ℕ) → Option ScriptCommand
get_command (name ∷ key ∷ []) = do
  k ← key_bytes_in key
  Some (commands.Get name k)
get_command _ = None

-- `del NAME KEY`
abbrev pub del_command : List (List ℕ) → Option ScriptCommand
del_command (name ∷ key ∷ []) = do
  k ← key_bytes_in key
  Some (commands.Del name k)
del_command _ = None

-- `start PROG CTX`
abbrev pub start_command : List (List ℕ) → Option ScriptCommand
start_command (prog ∷ ctx ∷ []) = do
  n ← number_in prog
  c ← context_bytes_in ctx
  Some (commands.Start n c)
start_command _ = None

-- `step RUN [COUNT]`, where no COUNT is 1
abbrev pub step_command : List (List ℕ) → Option ScriptCommand
step_command (run ∷ []) = do
  n ← number_in run
  Some (commands.Step n 1)
step_command (run ∷ count ∷ []) = do
  n ← number_in run
  steps ← count_in count
  Some (commands.Step n steps)
step_command _ = None

-- `drop RUN`
abbrev pub drop_command : List (List ℕ) → Option ScriptCommand
drop_command (run ∷ []) = do
  n ← number_in run
  Some (commands.Drop n)
drop_command _ = None

-- `dump NAME`
abbrev pub dump_command : List (List ℕ) → Option ScriptCommand
dump_command (name ∷ []) = Some (commands.Dump name)
dump_command _ = None

-- `advance`, `reap`, `stat`
abbrev pub alone : ScriptCommand → List (List ℕ) → Option ScriptCommand
alone command [] = Some command
alone command _ = None

abbrev pub arguments_for : Verb → List (List ℕ) → Option ScriptCommand
arguments_for verbs.Map words = map_command words
arguments_for verbs.Load words = load_command words
arguments_for verbs.Put words = put_command words
arguments_for verbs.Get words = get_command words
arguments_for verbs.Del words = del_command words
arguments_for verbs.Start words = start_command words
arguments_for verbs.Step words = step_command words
arguments_for verbs.Advance words = alone commands.Advance words
arguments_for verbs.Reap words = alone commands.Reap words
arguments_for verbs.Drop words = drop_command words
arguments_for verbs.Stat words = alone commands.Stat words
arguments_for verbs.Dump words = dump_command words

-- the command that the words are
abbrev pub command_of : List (List ℕ) → Option ScriptCommand
command_of [] = None
command_of (word ∷ words) = do
  verb ← verb_of word
  arguments_for verb words
