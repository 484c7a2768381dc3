pub mod Counting
pub mod Moving
pub mod Reading
pub mod Search
pub mod Writing
-- what a clause says of a table in the words of the crate below
pub use Rattle.table_words.specs.Hashes
pub use Rattle.table_words.specs.Held
pub use Rattle.table_words.specs.Law
pub use Rattle.table_words.specs.Limits
pub use Rattle.table_words.specs.Sightings
pub use Rattle.table_words.specs.Sip
pub use Rattle.table_words.specs.Values
