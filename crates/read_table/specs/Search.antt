-- What a search of some slots for a key found, as a stretch of its seat's list.
use Rattle.std.specs.Prelude.{◌≡◌, ℕ, ◌<◌, ◌≤◌, List, Option, Some, None}
use Rattle.read_table.specs.declared.view.Move.{Move}
use Rattle.read_table.specs.declared.view.TableShape.{TableShape}
use Rattle.read_table.specs.Lookups.{key_word, HadWord, Refuted, AnswersLookup}

-- each word of the key was found in the slot
abbrev pub HadKey : TableShape → List ℕ → ℕ → List Move → Type 0
HadKey k key slot ms =
    (place word : ℕ) → place < k.key_words → key_word key place ≡ Some word →
    HadWord slot place word ms

-- the slots from one on and below another were searched: each was found without the key, or one with it
abbrev pub Searched : TableShape → List ℕ → ℕ → ℕ → List Move → Option ℕ → Type 0
Searched k key low high ms None =
    (slot : ℕ) → low ≤ slot → slot < high → Refuted k key slot ms
Searched k key low high ms (Some slot) = AnswersLookup k key ms (Some slot)
