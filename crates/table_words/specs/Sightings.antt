-- What the writer notes at its looks at the readers' section words, since it unlinked elements.
use Rattle.std.specs.Prelude.{◌≡◌, ◌≢◌, ◌⊎◌, ◌↔◌, ℕ, ◌+◌, ◌%◌, ◌<◌, ◌≤◌, List, length, slice_index, slice_index_or}
use Rattle.table_words.specs.declared.moves.Move.{Move}
use Rattle.table_words.specs.History.{FoundSince, Cleared}
use Rattle.table_words.specs.Scanned.{FoundInside}
use Rattle.table_words.specs.declared.view.View.{View}
use Rattle.table_words.specs.declared.notes.Sighting.{Sighting}

-- the note of a reader at which the writer has not looked
abbrev pub no_sighting : Sighting
no_sighting = record { cleared = 0; looked = 0; word = 0 }

-- the note of a reader, counted from 0
abbrev pub sighting_at : List Sighting → ℕ → Sighting
sighting_at seen reader = slice_index_or seen reader no_sighting

-- The note of a reader tells of which of the unlinked elements it is cleared: of those that were unlinked first, so many. Of
-- another one it tells which number was found since the unlinking: one, if it was unlinked before the last look.
pub record IsSighting (reader : ℕ) (mine : List Move) (unlinked : List ℕ) (s : Sighting) : Type 0
  where
    pub few : s.cleared ≤ s.looked
    pub looked : s.looked ≤ length unlinked
    pub cleared : (at : ℕ) → at < length unlinked →
        (at < s.cleared) ↔ Cleared reader (slice_index unlinked at) mine
    pub found : (at word : ℕ) → s.cleared ≤ at → at < length unlinked →
        ((at < s.looked) × (word ≡ s.word)) ↔ FoundSince reader (slice_index unlinked at) word mine

-- each reader has its note
pub record AreSightings (v : View) (unlinked : List ℕ) (seen : List Sighting) : Type 0 where
  pub room : length seen ≡ v.shape.readers
  pub each : (reader : ℕ) → reader < v.shape.readers →
      IsSighting (reader + 1) v.mine unlinked (sighting_at seen reader)

-- The note after a look that found this word, when so many were unlinked. An even word clears the reader of all of them; an
-- odd one that was not found before, of those that were unlinked before the look before.
pub record IsNoted (old : Sighting) (word count : ℕ) (new : Sighting) : Type 0 where
  pub outside : word % 2 ≡ 0 → new.cleared ≡ count
  pub other : word % 2 ≢ 0 → word ≢ old.word → new.cleared ≡ old.looked
  pub same : word % 2 ≢ 0 → word ≡ old.word → new.cleared ≡ old.cleared
  pub looked : new.looked ≡ count
  pub word_is : new.word ≡ word

-- so many of the elements that were unlinked first are unlinked no more
pub record IsLowered (by : ℕ) (old new : Sighting) : Type 0 where
  pub cleared : new.cleared + by ≡ old.cleared
  pub looked : new.looked + by ≡ old.looked
  pub word_is : new.word ≡ old.word

-- the number is the least that some reader is cleared of, and no more than the most
pub record Least (least : ℕ) (seen : List Sighting) (most : ℕ) : Type 0 where
  pub most_is : least ≤ most
  pub each : (at : ℕ) → at < length seen → least ≤ (sighting_at seen at).cleared
  pub one : (least ≡ most)
      ⊎ ((at : ℕ) × (at < length seen) × ((sighting_at seen at).cleared ≡ least))

-- each of the readers has left its section since the element was unlinked
abbrev pub AreCleared : ℕ → ℕ → List Move → Type 0
AreCleared readers element mine = (r : ℕ) → 0 < r → r ≤ readers → Cleared r element mine

-- One of the readers was not seen to leave its section since the element was unlinked, and these moves found it inside.
pub record IsHeldUp (readers element : ℕ) (ms mine : List Move) : Type 0 where
  pub reader : ℕ
  pub some : 0 < reader
  pub within : reader ≤ readers
  pub never : Cleared reader element mine → ⊥
  pub inside : FoundInside reader ms
