-- What `filter` writes.
use Rattle.std.specs.Prelude.{ℕ, List, Option}
use Rattle.std.specs.Io.KnownBytes.{Appends}
use Rattle.classic_program.specs.declared.data.Data.{Data}
use Rattle.texts.specs.Filters.{IsFilterFile}

-- what `filter` adds to the output
abbrev pub WritesFilter : Data → Option (List ℕ) → Option (List ℕ) → List ℕ → Type 0
WritesFilter kind old new bytes =
    (file : List ℕ) × IsFilterFile kind bytes file × Appends old new file
