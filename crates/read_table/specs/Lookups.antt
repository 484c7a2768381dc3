-- What a lookup does to a table, as a stretch of its seat's list, the newest first, and what it finds.
use Rattle.std.specs.Prelude.{◌≡◌, ◌≢◌, ◌⊎◌, ℕ, ◌+◌, ◌*◌, ◌%◌, ◌<◌, ◌≤◌, List, [], ◌∷◌, length, Option, Some, None, slice_get}
use Rattle.bpf_model.specs.Access.{number_at}
use Rattle.read_table.specs.declared.view.Move.{Move}
use Rattle.read_table.specs.declared.view.Move.TheVariants.{Learn, Load}
use Rattle.read_table.specs.declared.view.TableShape.{TableShape}
use Rattle.read_table.specs.History.{IsLearnt}

-- a word of a key
abbrev pub key_word : List ℕ → ℕ → Option ℕ
key_word key place = number_at (slice_get key) (8 * place) 8

-- a lookup does no more than to learn slots and to load words of keys
abbrev pub OnlySearches : TableShape → List Move → Type 0
OnlySearches k [] = Unit {0}
OnlySearches k (Learn slot h ∷ ms) = OnlySearches k ms
OnlySearches k (Load slot place x ∷ ms) = (place < k.key_words) × OnlySearches k ms
OnlySearches k (_ ∷ ms) = ⊥

-- it makes no more moves than a learn for each slot and a load for each word of its key
abbrev pub IsBrief : TableShape → List Move → Type 0
IsBrief k ms = length ms ≤ k.slots * (1 + k.key_words)

-- the slot had this word at the place
abbrev pub HadWord : ℕ → ℕ → ℕ → List Move → Type 0
HadWord slot place word [] = ⊥
HadWord slot place word (Load s p x ∷ ms) =
    ((s ≡ slot) × (p ≡ place) × (x ≡ word)) ⊎ HadWord slot place word ms
HadWord slot place word (_ ∷ ms) = HadWord slot place word ms

-- the slot was found not linked, or a word of its key another one
abbrev pub Refuted : TableShape → List ℕ → ℕ → List Move → Type 0
Refuted k key slot [] = ⊥
Refuted k key slot (Learn s h ∷ ms) = ((s ≡ slot) × (h % 2 ≡ 0)) ⊎ Refuted k key slot ms
Refuted k key slot (Load s p x ∷ ms) =
    ((s ≡ slot) × (p < k.key_words) × (Some x ≢ key_word key p)) ⊎ Refuted k key slot ms
Refuted k key slot (_ ∷ ms) = Refuted k key slot ms

-- A stretch of the list that answers a lookup: null, where each slot was found without the key; or a slot that was
-- learnt in it as linked, and each of whose key words was found in it to be the one asked for.
abbrev pub AnswersLookup : TableShape → List ℕ → List Move → Option ℕ → Type 0
AnswersLookup k key ms None = (slot : ℕ) → slot < k.slots → Refuted k key slot ms
AnswersLookup k key ms (Some slot) =
    (slot < k.slots) × IsLearnt slot ms
    × ((place word : ℕ) → place < k.key_words → key_word key place ≡ Some word →
    HadWord slot place word ms)
