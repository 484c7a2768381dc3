-- The names of this crate that most proofs cite, passed on from one place.
pub use Rattle.map_table.specs.Counting.{AddsUp}
pub use Rattle.map_table.specs.Hashes.{layout_of, first_bucket, second_bucket, tag_of}
pub use Rattle.map_table.specs.Held.{TableView, Went, IsReady, IsKnown, Holder, IsSized, Goes, Does}
pub use Rattle.map_table.specs.Law.{ways_of, width_of, Gains, writer_after, Kept, did, ways_from, count_of, dealt, adds, opens, closes, learns, stores, puts}
pub use Rattle.map_table.specs.Law.{doubles, scans, base_of, index_in}
pub use Rattle.map_table.specs.Limits.{most_words, section_stride}
pub use Rattle.map_table.specs.Moving.{IsSomeInside, MakesOneWay, StayLinked, HaveGone, HasGone, NoneCanMove, StandStill}
pub use Rattle.map_table.specs.Reading.{Reads, OnlyLoads}
pub use Rattle.map_table.specs.Sightings.{AreSightings, sighting_at, Least, AreCleared, IsHeldUp, no_sighting, IsNoted}
pub use Rattle.map_table.specs.Values.{first_of, stored_of, copies_of}
pub use Rattle.map_table.specs.Writing.{WriterView, IsWriter, Fills, as_holder, IsNoneLost, IsFree, IsUnlinked, times_in, Works, AreFull, HasSeated, StaysIn}
pub use Rattle.map_table.specs.Writing.{MakesSeat}
pub use Rattle.table_words.specs.declared.moves.Move.{Move}
pub use Rattle.table_words.specs.declared.moves.Move.TheVariants.{Load, Put, Store, Scan, Learn, Open, Close, Double}
pub use Rattle.table_words.specs.declared.notes.Sighting.{Sighting}
pub use Rattle.table_words.specs.declared.view.TableShape.{TableShape}
pub use Rattle.table_words.specs.declared.view.View.{View}
