-- The names of this crate that most proofs cite, passed on from one place.
pub use Rattle.read_table.specs.Found.{IsLinkedUnder, KeepsHeader}
pub use Rattle.read_table.specs.Held.{TableView, Holder, Went, Goes, IsReady, IsKnown, IsSized, Does, IsUnchanged}
pub use Rattle.read_table.specs.History.{IsLearnt, header_in, inside, word_at_place, moves_of, IsLawful, MayLink, Knows, MayDo, Cleared, IsSpare, IsReader}
pub use Rattle.read_table.specs.Law.{width_of, headers_from, count_of, Gains, writer_after, Kept, opens, closes, learns, stores, changes, scans, base_of}
pub use Rattle.read_table.specs.Law.{index_in}
pub use Rattle.read_table.specs.Limits.{most_readers, most_table_slots}
pub use Rattle.table_words.specs.Limits.{section_stride}
pub use Rattle.read_table.specs.Lookups.{OnlySearches, key_word, Refuted, AnswersLookup, HadWord}
pub use Rattle.read_table.specs.Search.{Searched}
pub use Rattle.read_table.specs.Sightings.{noted, ScansInTurn, Tells, AreSightings, FoundInside}
pub use Rattle.read_table.specs.Slots.{Fills, AreSlots, IsFree, IsWriter, Leaves, IsLinked, IsUnlinked, times_in, WriterView, one_for}
pub use Rattle.read_table.specs.Table.{table_of}
