-- What a lookup does to the tables, as a stretch of its seat's list, the newest first, and what it finds.
use Rattle.std.specs.Prelude.{◌≡◌, ◌≢◌, ◌⊎◌, ℕ, ◌+◌, ◌*◌, ◌%◌, ◌^◌, ◌<◌, ◌≤◌, List, [], ◌∷◌, length, slice_index, Option, Some, None}
use Rattle.table_words.specs.declared.moves.Move.{Move}
use Rattle.table_words.specs.declared.moves.Move.TheVariants.{Learn, Load}
use Rattle.table_words.specs.Layout.{Layout, IsCandidate, Names, tag_in, candidate_ways}

-- a lookup does no more than to learn ways and to load words of keys
abbrev pub OnlySearches : Layout → ℕ → List Move → Type 0
OnlySearches k table [] = Unit {0}
OnlySearches k table (Learn way x ∷ ms) = OnlySearches k table ms
OnlySearches k table (Load element place x ∷ ms) =
    (place < k.key_words table) × OnlySearches k table ms
OnlySearches k table (_ ∷ ms) = ⊥

-- it makes no more moves than a learn for each way of two buckets, and a load for each word of each key there
abbrev pub IsBrief : Layout → ℕ → List Move → Type 0
IsBrief k table ms = length ms ≤ candidate_ways * (1 + k.key_words table)

-- the element was found in the way
abbrev pub FoundIn : ℕ → ℕ → List Move → Type 0
FoundIn way element [] = ⊥
FoundIn way element (Learn w x ∷ ms) = ((w ≡ way) × Names x element) ⊎ FoundIn way element ms
FoundIn way element (_ ∷ ms) = FoundIn way element ms

-- the element had this word at the place
abbrev pub HadWord : ℕ → ℕ → ℕ → List Move → Type 0
HadWord element place word [] = ⊥
HadWord element place word (Load e p x ∷ ms) =
    ((e ≡ element) × (p ≡ place) × (x ≡ word)) ⊎ HadWord element place word ms
HadWord element place word (_ ∷ ms) = HadWord element place word ms

-- the word names nothing, or what it names has another key, by its tag
abbrev pub IsElse : Layout → ℕ → List ℕ → ℕ → Type 0
IsElse k table key word = (word % 2 ^ 32 ≡ 0) ⊎ (tag_in word ≢ k.tag table key)

-- The way was found empty, or with another tag, or with an element one of whose key words was found to be another.
abbrev pub Refuted : Layout → ℕ → List ℕ → ℕ → List Move → Type 0
Refuted k table key way [] = ⊥
Refuted k table key way (Learn w x ∷ ms) =
    ((w ≡ way) × IsElse k table key x) ⊎ Refuted k table key way ms
Refuted k table key way (Load e p x ∷ ms) =
    (FoundIn way e ms × (p < k.key_words table) × (x ≢ slice_index key p)) ⊎ Refuted k table key way ms
Refuted k table key way (_ ∷ ms) = Refuted k table key way ms

-- A stretch that answers a lookup: null, where each way of the key's two buckets was found without the key; or an
-- element that was found in such a way, and each of whose key words was found to be the one asked for.
abbrev pub AnswersLookup : Layout → ℕ → List ℕ → List Move → Option ℕ → Type 0
AnswersLookup k table key ms None =
    (way : ℕ) → IsCandidate k table key way → Refuted k table key way ms
AnswersLookup k table key ms (Some element) =
    ((way : ℕ) × IsCandidate k table key way × FoundIn way element ms)
    × ((place : ℕ) → place < k.key_words table → HadWord element place (slice_index key place) ms)

-- all that a lookup of a key in a table does, and its answer
pub record LooksUp (k : Layout) (table : ℕ) (key : List ℕ) (ms : List Move) (answer : Option ℕ) : Type 0
  where
    pub only : OnlySearches k table ms
    pub brief : IsBrief k table ms
    pub answers : AnswersLookup k table key ms answer
