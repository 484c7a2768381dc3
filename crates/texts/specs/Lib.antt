pub mod Assembled
pub mod Filters
