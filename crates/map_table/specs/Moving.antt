-- What the writer finds and does where it makes room for a key.
use Rattle.std.specs.Prelude.{◌≡◌, ◌≢◌, ◌⊎◌, ℕ, ◌+◌, ◌<◌, ◌≤◌, List, ◌++◌, slice_index}
use Rattle.table_words.specs.declared.moves.Move.{Move}
use Rattle.table_words.specs.Layout.{IsCandidate, Names, bucket_ways}
use Rattle.table_words.specs.History.{word_in, key_of}
use Rattle.table_words.specs.Found.{IsLinkedAs, Throughout}
use Rattle.table_words.specs.Scanned.{FoundInside, FoundGone}
use Rattle.table_words.specs.declared.view.TableShape.{TableShape}
use Rattle.table_words.specs.declared.view.View.{View}
use Rattle.map_table.specs.Hashes.{layout_of}
use Rattle.map_table.specs.Writing.{AreFull}

-- each of the readers was found outside a section, or with two numbers
abbrev pub HaveGone : ℕ → List Move → Type 0
HaveGone readers ms = (r : ℕ) → 0 < r → r ≤ readers → FoundGone r ms

-- one of the readers was found inside a section
abbrev pub IsSomeInside : ℕ → List Move → Type 0
IsSomeInside readers ms = (r : ℕ) × (0 < r) × (r ≤ readers) × FoundInside r ms

-- each way of both buckets of the key has a word in this list
abbrev pub HasFullBuckets : TableShape → List ℕ → List ℕ → Type 0
HasFullBuckets k ways key = (way : ℕ) → IsCandidate (layout_of k) 0 key way → slice_index ways way ≢ 0

-- the way is that of this number, of those of two buckets which begin at these ways
abbrev pub IsNth : ℕ → ℕ → ℕ → ℕ → Type 0
IsNth first second at way = ((at < bucket_ways) × (way ≡ first + at)) ⊎ ((bucket_ways ≤ at) × (way + bucket_ways ≡ second + at))

-- each element that stands in a bucket of the key has two full buckets of its own
abbrev pub NoneCanMove : View → List ℕ → Type 0
NoneCanMove v key = (way element : ℕ) → IsCandidate (layout_of v.shape) 0 key way →
    Names (word_in way v.mine) element → AreFull v (key_of (layout_of v.shape) element v.seen)

-- each way has the word that it had
abbrev pub StandStill : View → View → Type 0
StandStill v w = (way : ℕ) → word_in way w.mine ≡ word_in way v.mine

-- The word of the one way stands in the other, which was empty. Each other way has the word that it had.
pub record HasGone (from to : ℕ) (v w : View) : Type 0 where
  pub empty : word_in to v.mine ≡ 0
  pub emptied : word_in from w.mine ≡ 0
  pub there : word_in to w.mine ≡ word_in from v.mine
  pub others : (way : ℕ) → way ≢ from → way ≢ to → word_in way w.mine ≡ word_in way v.mine

-- a word of the key's buckets has gone to another way
abbrev pub GoesAside : List ℕ → View → View → Type 0
GoesAside key v w = (from to : ℕ) × IsCandidate (layout_of v.shape) 0 key from × HasGone from to v w

-- If both buckets of the key were full, a word of them went aside; else each stands where it stood.
abbrev pub MakesOneWay : List ℕ → View → View → Type 0
MakesOneWay key v w = (AreFull v key × GoesAside key v w) ⊎ ((AreFull v key → ⊥) × StandStill v w)

-- The second history goes on from the first. Each element that was linked under a key is linked so after each of its steps.
abbrev pub StayLinked : TableShape → List (ℕ × Move) → List (ℕ × Move) → Type 0
StayLinked k old new = (late : List (ℕ × Move)) × (new ≡ late ++ old)
    × ((key : List ℕ) (element : ℕ) → IsLinkedAs (layout_of k) 0 key element old →
    Throughout (IsLinkedAs (layout_of k) 0 key element) late old)
