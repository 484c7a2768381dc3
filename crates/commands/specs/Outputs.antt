-- What `check` and `disasm` write, of which files, and how they refuse the others.
use Rattle.std.specs.Prelude.{◌≢◌, ℕ, List, ◌++◌, length, codes, Option, Bool, true, false, ⊤}
use Rattle.std.specs.Fmt.{decimal}
use Rattle.std.specs.Io.KnownBytes.{Appends}
use Rattle.bpf_model.specs.declared.insn.Insn.{Insn}
use Rattle.bpf_model.specs.Places.{slot_total}
use Rattle.program_files.specs.declared.verdict.Verdict.{Verdict}
use Rattle.program_files.specs.Verdicts.{memory_number, verdict_number}
use Rattle.program_files.specs.Checks.{IsVerifiedFile, IsTextOf, IsDecodeRefusal, IsCheckedRefusal}
use Rattle.commands.specs.declared.refusal.CommandRefusal.{CommandRefusal}
use Rattle.commands.specs.declared.refusal.CommandRefusal.TheVariants.{File}
use Rattle.commands.specs.Json.{accepted_json, refusal_json}

-- The file, or its code, has a fault other than want of memory.
abbrev pub IsRefusedByDecode : List ℕ → Type 0
IsRefusedByDecode bytes = (v : Verdict) × (verdict_number v ≢ memory_number) × IsDecodeRefusal bytes v

-- what `check` says of a program of so many instructions and slots
abbrev pub accepted_line : ℕ → ℕ → List ℕ
accepted_line instructions slots =
    codes "accepted " ++ (decimal instructions
    ++ (codes " instructions " ++ (decimal slots ++ codes " slots\n")))

-- the same as a line, or as a JSON object
abbrev pub accepted_text : Bool → ℕ → ℕ → List ℕ
accepted_text false instructions slots = accepted_line instructions slots
accepted_text true instructions slots = accepted_json instructions slots

-- what `check` adds to the output for a file that it accepts
abbrev pub WritesAccepted : Bool → Option (List ℕ) → Option (List ℕ) → List ℕ → Type 0
WritesAccepted json old new bytes =
    (program : List Insn) × IsVerifiedFile bytes program
    × Appends old new (accepted_text json (length program) (slot_total program))

-- What a refusal adds to the output: a JSON object, where that is asked for. Nothing is said of the name and the meaning.
abbrev pub TellsVerdict : Bool → CommandRefusal → Option (List ℕ) → Option (List ℕ) → Type 0
TellsVerdict false v old new = ⊤
TellsVerdict true v old new = (name meaning : List ℕ) × Appends old new (refusal_json v name meaning)

-- The file or its code has a fault other than want of memory, or the verifier has such a verdict of its program; and the output
-- has the verdict.
abbrev pub RefusesFile : Bool → Option (List ℕ) → Option (List ℕ) → List ℕ → Type 0
RefusesFile json old new bytes =
    (v : Verdict) × (verdict_number v ≢ memory_number) × IsCheckedRefusal bytes v × TellsVerdict json (File v) old new

-- what `disasm` adds for a file that says a program
abbrev pub WritesText : Option (List ℕ) → Option (List ℕ) → List ℕ → Type 0
WritesText old new bytes = (lines : List ℕ) × IsTextOf bytes lines × Appends old new lines
