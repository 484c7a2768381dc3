-- The contexts that the jobs of `pool` take in turn.
use Rattle.std.specs.Prelude.{◌≡◌, ℕ, List, [], ◌∷◌, replicate, Option, Some, None}
use Rattle.command_words.specs.declared.request.ContextForm.{ContextForm}
use Rattle.command_words.specs.declared.request.ContextForm.TheVariants.{Lines, Packed}
use Rattle.command_words.specs.declared.request.ContextsFile.{ContextsFile}
use Rattle.program_files.specs.Contexts.{AreInLines, ArePacked}

-- A file of these bytes, in this form, says these contexts of so many bytes each.
abbrev pub SaysContexts : ContextForm → ℕ → List ℕ → List (List ℕ) → Type 0
SaysContexts Lines len bytes contexts = AreInLines len bytes contexts
SaysContexts Packed len bytes contexts = ArePacked len bytes contexts

-- The contexts are one of so many zeros where no file of them is named; else those that it says.
abbrev pub AreContexts : Option ContextsFile → ℕ → List ℕ → List (List ℕ) → Type 0
AreContexts None len bytes contexts = contexts ≡ replicate len 0 ∷ []
AreContexts (Some file) len bytes contexts = SaysContexts file.form len bytes contexts
