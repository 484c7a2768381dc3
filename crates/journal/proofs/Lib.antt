pub mod Storing
pub mod Indexing
pub mod Counting
