-- The hash of a key and its bucket, and chains of slots.
use Rattle.std.specs.Int.{from_le_bytes, w64}
use Rattle.std.specs.Prelude.{◌≡◌, ℕ, zero, suc, ◌+◌, ◌<◌, ◌-◌, ◌*◌, ◌/◌, ◌%◌, ◌^◌, bit_and}
use Rattle.std.specs.Prelude.{bit_xor}
use Rattle.std.specs.Prelude.{List, ◌∷◌, ◌++◌, Option, None, Some, cond, drop, eqb, length}
use Rattle.element_store.specs.State.{ArenaState, IsTaken, link_at, times_in}
use Rattle.element_store.specs.Threads.{IsThread, chain_of}

-- the hash of no bytes
abbrev pub hash_start : ℕ
hash_start = 14695981039346656037

-- 2^64 over the golden ratio, which is odd
abbrev pub word_factor : ℕ
word_factor = 11400714819323198485

-- how many bytes a word has
abbrev pub word_bytes : ℕ
word_bytes = 8

-- the little-endian number of the first eight bytes; of fewer, with zeros behind them
abbrev pub hashed_word : List ℕ → ℕ
hashed_word bytes = from_le_bytes w64 bytes

-- a product with its high half folded into the low one
abbrev pub folded_product : ℕ → ℕ
folded_product product = bit_xor product (product / 2 ^ 32)

-- a hash that goes on with a word
abbrev pub mixed_hash : ℕ → ℕ → ℕ
mixed_hash h word = folded_product ((bit_xor h word * word_factor) % 2 ^ 64)

-- a hash that goes on with so many words
abbrev pub words_hash : ℕ → ℕ → List ℕ → ℕ
words_hash zero h bytes = h
words_hash (suc n) h bytes =
    words_hash n (mixed_hash h (hashed_word bytes)) (drop word_bytes bytes)

-- the hash of a key: that of its words, the last of which may have fewer bytes
abbrev pub hash_of : List ℕ → ℕ
hash_of key = words_hash ((length key + (word_bytes - 1)) / word_bytes) hash_start key

-- the bucket of a hash and of a key, of a power of two of them
abbrev pub hash_bucket : ℕ → ℕ → ℕ
hash_bucket count hash = bit_and (((hash * word_factor) % 2 ^ 64) / 2 ^ 32) (count - 1)

abbrev pub bucket_of : ℕ → List ℕ → ℕ
bucket_of count key = hash_bucket count (hash_of key)

-- the chain from this slot ends, and its slots are taken
pub record IsChain (a : ArenaState) (first : Option ℕ) : Type 0 where
  pub thread : IsThread (link_at a.links) first (chain_of a first)
  pub taken : (j : ℕ) → 0 < times_in j (chain_of a first) → IsTaken a j

-- in this chain `last` stands directly before `slot`
pub record IsBefore (chain : List ℕ) (last slot : ℕ) : Type 0 where
  pub front : List ℕ
  pub back : List ℕ
  pub split : chain ≡ front ++ last ∷ slot ∷ back

-- A slot was taken out of the chain from first, which begins with result now. Links of the chain
-- alone have changed.
pub record IsCut (a b : ArenaState) (first : Option ℕ) (slot : ℕ) (result : Option ℕ) : Type 0 where
  pub rest : b ≡ record a { links = b.links }
  pub others : (j : ℕ) → times_in j (chain_of a first) ≡ 0 → link_at b.links j ≡ link_at a.links j
  pub left : List ℕ
  pub thread : IsThread (link_at b.links) result left
  pub fewer : (j : ℕ) → times_in j (chain_of a first) ≡ times_in j left + cond (eqb slot j) 1 0

-- in this chain the slot stands behind the last; behind none it stands first
abbrev pub StandsBehind : List ℕ → Option ℕ → ℕ → Type 0
StandsBehind chain None slot = (rest : List ℕ) × (chain ≡ slot ∷ rest)
StandsBehind chain (Some last) slot = IsBefore chain last slot
