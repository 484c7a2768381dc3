-- What `check` writes of a program file, or of a text of instructions, and how it refuses them.
use Rattle.std.specs.Prelude.{◌≡◌, ◌⊎◌, ℕ, Bool, true, false, List, Option}
use Rattle.texts.specs.Assembled.{IsAssembled}
use Rattle.commands.specs.Outputs.{RefusesFile, WritesAccepted}
use Rattle.commands.specs.Sources.{IsRead, IsRefusedText}

-- The program file that the text makes is accepted.
abbrev pub WritesAcceptedText : Bool → Option (List ℕ) → Option (List ℕ) → List ℕ → Type 0
WritesAcceptedText json old new bytes =
    (read : List ℕ) × IsRead bytes read
    × ((lines code file : List ℕ) × IsAssembled read lines code file × WritesAccepted json old new file)

-- The program file that the text makes is refused.
abbrev pub RefusesMade : Bool → Option (List ℕ) → Option (List ℕ) → List ℕ → Type 0
RefusesMade json old new bytes =
    (read : List ℕ) × IsRead bytes read
    × ((lines code file : List ℕ) × IsAssembled read lines code file × RefusesFile json old new file)

-- The text is refused, and nothing is written; or the program file that it makes is refused.
abbrev pub RefusesText : Bool → Option (List ℕ) → Option (List ℕ) → List ℕ → Type 0
RefusesText json old new bytes = (IsRefusedText bytes × (new ≡ old)) ⊎ RefusesMade json old new bytes

-- what `check` adds to the output for a text of instructions, or else a program file, that it accepts
abbrev pub WritesChecked : Bool → Bool → Option (List ℕ) → Option (List ℕ) → List ℕ → Type 0
WritesChecked true json old new bytes = WritesAcceptedText json old new bytes
WritesChecked false json old new bytes = WritesAccepted json old new bytes

-- how `check` refuses either
abbrev pub RefusesChecked : Bool → Bool → Option (List ℕ) → Option (List ℕ) → List ℕ → Type 0
RefusesChecked true json old new bytes = RefusesText json old new bytes
RefusesChecked false json old new bytes = RefusesFile json old new bytes
