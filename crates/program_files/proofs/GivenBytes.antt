-- What is kept of an input whose bytes are known.
use Rattle.bpf_model.proofs.Prelude.{◌≡◌, ℕ, List, ◌++◌, Option, Some, None}
use Rattle.std.specs.Prelude.{⊤}
use Rattle.program_files.specs.declared.program_file.FileBytes.{FileBytes}
use Rattle.program_files.specs.Files.{HoldsBytes}

-- The file's bytes are what a reader has given, where its bytes are known.
abbrev pub HasRead : Option (List ℕ) → Option (List ℕ) → FileBytes → Type 0
HasRead None left file = ⊤
HasRead (Some all) None file = ⊥
HasRead (Some all) (Some left) file =
    (given : List ℕ) × (all ≡ given ++ left) × HoldsBytes file given
