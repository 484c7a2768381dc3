-- What buckets have, and when they fit an arena.
use Rattle.std.specs.Prelude.{◌≡◌, ℕ, ◌<◌, ◌≤◌, ◌^◌, List, [], ◌∷◌, ◌++◌, Option, Some, length}
use Rattle.std.specs.Prelude.{min, slice_get}
use Rattle.std.specs.Int.{IsPowerOfTwo}
use Rattle.bpf_model.specs.declared.limits.TheConstants.{MAX_ENTRIES}
use Rattle.bpf_model.specs.View.{KeyMap}
use Rattle.element_store.specs.State.{ArenaState, IsTaken, link_at, key_at, times_in, contents_of}
use Rattle.element_store.specs.Threads.{IsThread, walk, chain_of}
use Rattle.element_store.proofs.Indexing.{AreUnique}
use Rattle.hash_index.specs.Chains.{bucket_of, StandsBehind}
use Rattle.hash_index.specs.declared.buckets.Buckets.{Buckets}
use Rattle.hash_index.specs.declared.place.Place.{Place}

-- the slots of the chains from these heads
abbrev pub slots_from : ℕ → (ℕ → Option ℕ) → List (Option ℕ) → List ℕ
slots_from n next [] = []
slots_from n next (o ∷ heads) = walk n next o ++ slots_from n next heads

-- the slots of all chains; none is longer than the arena
abbrev pub chained_slots : List (Option ℕ) → ArenaState → List ℕ
chained_slots heads a = slots_from (length a.slots) (link_at a.links) heads

abbrev pub contents_in : Buckets → ArenaState → KeyMap
contents_in x a = contents_of (key_at a.slots) (chained_slots x.heads.items a)

-- Each chain ends, and its slots are those of keys of its bucket. All slots are taken, stand once,
-- and have different keys.
pub record HeadsFit (heads : List (Option ℕ)) (a : ArenaState) : Type 0 where
  pub some : 0 < length heads
  pub thread : (k : ℕ) (o : Option ℕ) → slice_get heads k ≡ Some o →
      IsThread (link_at a.links) o (chain_of a o)
  pub home : (k : ℕ) (o : Option ℕ) → slice_get heads k ≡ Some o →
      (j : ℕ) → 0 < times_in j (chain_of a o) → bucket_of (length heads) (key_at a.slots j) ≡ k
  pub once : (j : ℕ) → times_in j (chained_slots heads a) ≤ 1
  pub taken : (j : ℕ) → 0 < times_in j (chained_slots heads a) → IsTaken a j
  pub unique : AreUnique (key_at a.slots) (chained_slots heads a)

-- The number is the least power of two that is no less than n.
pub record IsLeastPowerOfTwo (n number : ℕ) : Type 0 where
  pub power : IsPowerOfTwo number
  pub enough : n ≤ number
  pub least : (k : ℕ) → n ≤ 2 ^ k → number ≤ 2 ^ k

-- There are as many heads as the least power of two that is no less than the entries, of which no
-- more count than a map may link.
abbrev pub AreHeadsFor : Buckets → ℕ → Type 0
AreHeadsFor x entries = IsLeastPowerOfTwo (min entries MAX_ENTRIES) (length x.heads.items)

abbrev pub BucketsFits : Buckets → ArenaState → Type 0
BucketsFits x a = HeadsFit x.heads.items a

-- The place of a key: the number of its chain, and where in it the slot stands that has the key, if
-- there is one.
pub record IsPlaceIn (heads : List (Option ℕ)) (a : ArenaState) (key : List ℕ) (p : Place)
    : Type 0 where
  pub home : p.home ≡ bucket_of (length heads) key
  pub behind : (o : Option ℕ) (s : ℕ) → slice_get heads p.home ≡ Some o → p.slot ≡ Some s →
      StandsBehind (chain_of a o) p.last s

abbrev pub buckets_place : Buckets → ArenaState → List ℕ → Place → Type 0
buckets_place x a key p = IsPlaceIn x.heads.items a key p
