-- What `asm` writes.
use Rattle.std.specs.Prelude.{ℕ, List, Option}
use Rattle.std.specs.Io.KnownBytes.{Appends}
use Rattle.texts.specs.Assembled.{IsAssembled}
use Rattle.command_words.specs.declared.request.AsmForm.{AsmForm}
use Rattle.command_words.specs.declared.request.AsmForm.TheVariants as form
use Rattle.commands.specs.Sources.{IsRead}

-- what is written of these three
abbrev pub written_as : AsmForm → List ℕ → List ℕ → List ℕ → List ℕ
written_as form.Bytes lines code file = code
written_as form.File lines code file = file
written_as form.Plain lines code file = lines

-- What `asm` adds to the output.
abbrev pub WritesCode : AsmForm → Option (List ℕ) → Option (List ℕ) → List ℕ → Type 0
WritesCode form old new bytes =
    (read : List ℕ) × IsRead bytes read
    × ((lines code file : List ℕ) × IsAssembled read lines code file × Appends old new (written_as form lines code file))
