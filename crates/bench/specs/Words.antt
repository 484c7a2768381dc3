-- Which words ask for a command.
use Rattle.std.specs.Prelude.{◌≡◌, ℕ, ◌<◌, ◌≤◌, List, [], ◌∷◌, map, codes, String, string_bytes}
use Rattle.std.specs.Str.Parse.{digits_value, without_leading_plus}
use Rattle.bpf_model.specs.declared.limits.TheConstants.{CTX_BYTES}
use Rattle.bench.specs.declared.command.BenchCommand.{BenchCommand}
use Rattle.bench.specs.declared.command.BenchCommand.TheVariants.{Repeat, Run, Samples}
use Rattle.bench.specs.declared.command.Command.{Command}
use Rattle.bench.specs.declared.command.Command.TheVariants.{Bench, Read, World}
use Rattle.bench.specs.declared.command.Repeated.{Repeated}
use Rattle.bench.specs.declared.command.Repeated.TheVariants.{Runs, Verifications}

-- the word that asks for what is done again and again
abbrev pub word_of : Repeated → List ℕ
word_of Runs = codes "repeat"
word_of Verifications = codes "verify"

-- No words, or `run`, a file and the decimal digits, perhaps behind a plus, of a length that a
-- context may have; or the word of what is repeated, a file, a length, and how many times, at least
-- once.
abbrev pub IsAskedBy : {A : Type 0} → List (String A) → BenchCommand → Type 0
IsAskedBy words Samples = words ≡ []
IsAskedBy words (Run file ctx_len) =
    (length : List ℕ) × (map string_bytes words ≡ codes "run" ∷ file.now ∷ length ∷ [])
    × (digits_value 10 (without_leading_plus length) ≡ ctx_len) × (ctx_len ≤ CTX_BYTES)
IsAskedBy words (Repeat deed file ctx_len times) =
    (length : List ℕ) × (count : List ℕ)
    × (map string_bytes words ≡ word_of deed ∷ file.now ∷ length ∷ count ∷ [])
    × (digits_value 10 (without_leading_plus length) ≡ ctx_len) × (ctx_len ≤ CTX_BYTES)
    × (digits_value 10 (without_leading_plus count) ≡ times) × (0 < times)

-- The same of all commands. Of those on worlds and on tables nothing is said.
abbrev pub IsAsked : {A : Type 0} → List (String A) → Command → Type 0
IsAsked words (Bench command) = IsAskedBy words command
IsAsked words (World command) = Unit {0}
IsAsked words (Read command) = Unit {0}
