-- What each command writes, of which input, and how it refuses the others.
use Rattle.std.specs.Prelude.{◌≡◌, ℕ, List, Option, ⊤, false, true, codes}
use Rattle.std.specs.Io.KnownBytes.{Appends}
use Rattle.command_words.specs.declared.request.BpfrtCommand.{BpfrtCommand}
use Rattle.command_words.specs.declared.request.BpfrtCommand.TheVariants.{Check, Disasm, Asm, Script, Version, Pool, Run, Trace, Filter}
use Rattle.texts.specs.Filters.{IsRefusedByFilter}
use Rattle.commands.specs.Asm.{WritesCode}
use Rattle.commands.specs.Filters.{WritesFilter}
use Rattle.commands.specs.Checking.{RefusesChecked, WritesChecked}
use Rattle.commands.specs.Outputs.{IsRefusedByDecode, WritesText}
use Rattle.commands.specs.Pools.{IsRefusedByPool, WritesPool}
use Rattle.commands.specs.Runs.{RefusesRun, WritesRun}
use Rattle.commands.specs.Scripts.{AnswersAll, AnswersBefore}
use Rattle.commands.specs.Sources.{IsRefusedText}

-- What a command adds to the output where all is fine. A file of contexts that it names has the given bytes.
abbrev pub Writes : BpfrtCommand → List ℕ → Option (List ℕ) → Option (List ℕ) → List ℕ → Type 0
Writes (Check file how) given old new bytes = WritesChecked how.asm how.json old new bytes
Writes (Disasm file) given old new bytes = WritesText old new bytes
Writes (Asm file form explain) given old new bytes = WritesCode form old new bytes
Writes (Script explain) given old new bytes = AnswersAll old new bytes
Writes Version given old new bytes = Appends old new (codes "bpfrt 0.1.0\n")
Writes (Pool workers file count contexts explain) given old new bytes = WritesPool contexts given workers count old new bytes
Writes (Run file single) given old new bytes = WritesRun false single old new bytes
Writes (Trace file single) given old new bytes = WritesRun true single old new bytes
Writes (Filter file kind explain) given old new bytes = WritesFilter kind old new bytes

-- What is so where a command refuses: its file, its numbers, its context or its elements are
-- refused; or a line of the script is bad, and the answers to the lines before are written. The
-- version is not refused.
abbrev pub Refuses : BpfrtCommand → List ℕ → Option (List ℕ) → Option (List ℕ) → List ℕ → Type 0
Refuses (Check file how) given old new bytes = RefusesChecked how.asm how.json old new bytes
Refuses (Disasm file) given old new bytes = IsRefusedByDecode bytes
Refuses (Asm file form explain) given old new bytes = IsRefusedText bytes
Refuses (Script explain) given old new bytes = AnswersBefore old new bytes
Refuses Version given old new bytes = ⊥
Refuses (Pool workers file count contexts explain) given old new bytes = IsRefusedByPool contexts given workers count bytes
Refuses (Run file single) given old new bytes = RefusesRun single old new bytes
Refuses (Trace file single) given old new bytes = RefusesRun single old new bytes
Refuses (Filter file kind explain) given old new bytes = IsRefusedByFilter kind bytes

-- the command's input is a file, and its answer no JSON object
abbrev pub ReadsFileForText : BpfrtCommand → Type 0
ReadsFileForText (Check file how) = how.json ≡ false
ReadsFileForText (Disasm file) = ⊤
ReadsFileForText (Asm file form explain) = ⊤
ReadsFileForText (Script explain) = ⊥
ReadsFileForText Version = ⊥
ReadsFileForText (Pool workers file count contexts explain) = ⊤
ReadsFileForText (Run file single) = single.json ≡ false
ReadsFileForText (Trace file single) = single.json ≡ false
ReadsFileForText (Filter file kind explain) = ⊤
