-- The books of a shared world and its workers, as contracts see them.
use Rattle.std.specs.Prelude.{◌≡◌, ℕ, ◌+◌, ◌^◌, ◌<◌, ◌≤◌, ◌⊎◌, List, [], ◌∷◌, ◌++◌, length, Some}
use Rattle.std.specs.Prelude.{slice_get}
use Rattle.bpf_model.specs.declared.event.Event.{Event}
use Rattle.bpf_model.specs.declared.event.Answer.{Answer}
use Rattle.bpf_model.specs.declared.limits.TheConstants.{MAX_JOURNAL}
use Rattle.bpf_model.specs.Machine.{Loaded}
use Rattle.bpf_model.specs.View.{WorldView}
use Rattle.world_laws.specs.Loads.{with_program}
use Rattle.bpf_model.specs.declared.entry.Entry.{Entry}
use Rattle.journal.specs.Entries.{JournalView}
use Rattle.shared_books.specs.Replay.{Replays}
use Rattle.shared_books.specs.Totals.{steps_of}
use Rattle.world_laws.specs.Reacting.{full_reaction}
use Rattle.shared_books.specs.declared.tally.Tally.{Tally}
use Rattle.shared_books.specs.declared.tally.Totals.{Totals}
use Rattle.shared_books.specs.Tally.{IsTallyOf, steps_by, greatest_count}

-- The base, the world now, the entries from the one to the other and how many there may be, how
-- many entries there were before the base and how many of them were steps, how many the ledger
-- counts, and what is counted of the world.
pub record BooksView : Type 0 where
  pub base : WorldView
  pub world : WorldView
  pub journal : List Entry
  pub limit : ℕ
  pub before : ℕ
  pub steps_before : ℕ
  pub total : ℕ
  pub tally : Tally

-- The books balance: the journal replays from the base, which has no run, to the world; the
-- ledger's total is the number of the entries before the base and of those in the journal; the
-- totals are the world's, and no greater than that number. The journal has at most as many entries
-- as it may have, which are no more than `MAX_JOURNAL`.
pub record AreBalanced (b : BooksView) : Type 0 where
  pub replays : Replays b.base b.world b.journal
  pub count : b.before + length b.journal ≡ b.total
  pub fits : b.total < 2 ^ 64
  pub tally : IsTallyOf b.tally b.world
  pub steps : b.steps_before + steps_of b.journal ≡ b.tally.totals.steps
  pub few_steps : b.tally.totals.steps ≤ b.total
  pub few_unlinked : b.tally.totals.unlinked ≤ b.total
  pub few_reclaimed : b.tally.totals.reclaimed ≤ b.total
  pub limit : b.limit ≤ MAX_JOURNAL
  pub short : length b.journal ≤ b.limit

-- the most workers of a shared world
abbrev pub most_workers : ℕ
most_workers = 8

-- a worker: its number, how many entries it has made, and how many parts of the ledger it has
pub record WorkerView : Type 0 where
  pub number : ℕ
  pub made : ℕ
  pub parts : ℕ

-- each worker's number is its index
abbrev pub AreNumbered : List WorkerView → Type 0
AreNumbered workers =
    (k : ℕ) (w : WorkerView) → slice_get workers k ≡ Some w → w.number ≡ k

-- the view of books with these parts; of the journal only the entries and the limit are seen
abbrev pub books_view : WorldView → WorldView → JournalView → ℕ → ℕ → ℕ → Tally → BooksView
books_view base world journal before steps_before total tally = record {
  base = base;
  world = world;
  journal = journal.entries;
  limit = journal.limit;
  before = before;
  steps_before = steps_before;
  total = total;
  tally = tally;
}

-- No further entry can be made: there are as many as there may be, or, with those before them, as
-- many as 64 bits count.
abbrev pub HasNoRoom : List Entry → ℕ → ℕ → Type 0
HasNoRoom entries limit before =
    (length entries ≡ limit) ⊎ (before + length entries ≡ greatest_count)

abbrev pub IsJournalFull : BooksView → Type 0
IsJournalFull b = HasNoRoom b.journal b.limit b.before

-- One event: its entry is added, the answer and the new world are the world's reaction, and what is
-- counted goes on.
pub record Enters (old : BooksView) (worker : ℕ) (event : Event) (answer : Answer) (new : BooksView)
    : Type 0 where
  pub journal : new.journal ≡ old.journal
      ++ (record { worker = worker; event = event; answer = answer }) ∷ []
  pub answers : answer ≡ (full_reaction old.world event).0
  pub world : new.world ≡ (full_reaction old.world event).1
  pub base : new.base ≡ old.base
  pub limit : new.limit ≡ old.limit
  pub before : new.before ≡ old.before
  pub steps_before : new.steps_before ≡ old.steps_before
  pub total : new.total ≡ old.total + 1
  pub origin : new.tally.origin ≡ old.tally.origin
  pub steps : new.tally.totals.steps ≡ old.tally.totals.steps + steps_by answer

-- no total is less than it was
pub record TotalsRise (old new : Totals) : Type 0 where
  pub steps : old.steps ≤ new.steps
  pub unlinked : old.unlinked ≤ new.unlinked
  pub reclaimed : old.reclaimed ≤ new.reclaimed

-- The world has one more program, and is the base, and the journal is empty; its entries are counted as those before the base.
pub record LoadsTo (program : Loaded) (old new : BooksView) : Type 0 where
  pub base : new.base ≡ with_program program old.world
  pub world : new.world ≡ with_program program old.world
  pub journal : new.journal ≡ []
  pub limit : new.limit ≡ old.limit
  pub before : new.before ≡ old.before + length old.journal
  pub steps_before : new.steps_before ≡ old.steps_before + steps_of old.journal
  pub total : new.total ≡ old.total
  pub tally : new.tally ≡ old.tally

-- The world now is the base, and the journal is empty; its entries are counted as those before the
-- base.
pub record CutsTo (old new : BooksView) : Type 0 where
  pub base : new.base ≡ old.world
  pub world : new.world ≡ old.world
  pub journal : new.journal ≡ []
  pub limit : new.limit ≡ old.limit
  pub before : new.before ≡ old.before + length old.journal
  pub steps_before : new.steps_before ≡ old.steps_before + steps_of old.journal
  pub total : new.total ≡ old.total
  pub tally : new.tally ≡ old.tally
