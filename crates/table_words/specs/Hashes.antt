-- Where a key may be linked, and its tag: by one keyed hash of its words, and by that hash times an odd number.
use Rattle.std.specs.Prelude.{ℕ, ◌*◌, ◌/◌, ◌%◌, ◌^◌, List}
use Rattle.table_words.specs.Layout.{Layout}
use Rattle.table_words.specs.declared.view.TableShape.{TableShape}
use Rattle.table_words.specs.Values.{owner_of}
use Rattle.table_words.specs.Sip.{sip_hash}

-- 2^64 over the golden ratio, which is odd
abbrev pub second_factor : ℕ
second_factor = 11400714819323198485

abbrev pub hash_of : TableShape → List ℕ → ℕ
hash_of k key = sip_hash k.secret key

-- a bucket, by the high half of a hash
abbrev pub bucket_by : ℕ → ℕ → ℕ
bucket_by buckets hash = hash / 2 ^ 32 * buckets / 2 ^ 32

abbrev pub first_bucket : TableShape → List ℕ → ℕ
first_bucket k key = bucket_by k.buckets (hash_of k key)

abbrev pub second_bucket : TableShape → List ℕ → ℕ
second_bucket k key = bucket_by k.buckets (hash_of k key * second_factor % 2 ^ 64)

-- the low half of the hash
abbrev pub tag_of : TableShape → List ℕ → ℕ
tag_of k key = hash_of k key % 2 ^ 32

-- the layout of which the laws speak: one table, number 0
abbrev pub layout_of : TableShape → Layout
layout_of k = record {
  readers = k.readers;
  elements = k.elements;
  table_of = λ element. 0;
  key_words = λ table. k.key_words;
  owner = λ table place. owner_of k place;
  first = λ table key. first_bucket k key;
  second = λ table key. second_bucket k key;
  tag = λ table key. tag_of k key;
}
