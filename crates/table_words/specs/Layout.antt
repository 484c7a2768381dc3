-- How the tables of a program lie. Ways and elements are numbered through all of its tables. Eight ways that follow each
-- other are a bucket. An element has the words of its key, and those of its value behind them.
use Rattle.std.specs.Prelude.{◌≡◌, ◌⊎◌, ℕ, suc, ◌*◌, ◌/◌, ◌%◌, ◌^◌, List}

pub record Layout : Type 0 where
  -- how many readers there are; they are numbered from 1
  pub readers : ℕ
  -- how many elements there are; they are numbered from 0
  pub elements : ℕ
  -- the table of an element
  pub table_of : ℕ → ℕ
  -- how many words a key of a table has
  pub key_words : ℕ → ℕ
  -- the one reader who may store at a place of a table's elements, or 0 where each reader may
  pub owner : ℕ → ℕ → ℕ
  -- the two buckets where a key of a table may be linked
  pub first : ℕ → List ℕ → ℕ
  pub second : ℕ → List ℕ → ℕ
  -- what the way of a key of a table bears beside the element's number
  pub tag : ℕ → List ℕ → ℕ

-- how many ways a bucket has
abbrev pub bucket_ways : ℕ
bucket_ways = 8

-- how many ways two buckets have
abbrev pub candidate_ways : ℕ
candidate_ways = 2 * bucket_ways

-- the bucket that a way is of
abbrev pub bucket_of : ℕ → ℕ
bucket_of way = way / bucket_ways

-- The way is of a bucket where the key may be linked.
abbrev pub IsCandidate : Layout → ℕ → List ℕ → ℕ → Type 0
IsCandidate k table key way = (bucket_of way ≡ k.first table key) ⊎ (bucket_of way ≡ k.second table key)

-- No element of another table may be linked where a key of this one may.
abbrev pub IsApart : Layout → ℕ → Type 0
IsApart k table = (element way : ℕ) (key other : List ℕ) →
    IsCandidate k table key way → IsCandidate k (k.table_of element) other way → k.table_of element ≡ table

-- The low half of a way's word is one more than the number of an element, or 0 where the way is empty.
abbrev pub Names : ℕ → ℕ → Type 0
Names word element = word % 2 ^ 32 ≡ suc element

-- The high half is the tag of the element's key.
abbrev pub tag_in : ℕ → ℕ
tag_in word = word / 2 ^ 32
