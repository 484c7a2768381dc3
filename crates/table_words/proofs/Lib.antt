pub mod Prelude
mod Added
pub mod Hits
pub mod Holding
pub mod Looks
pub mod Moments
pub mod Moved
pub mod Once
pub mod Owning
mod Small
pub mod Standing
pub mod Steps
pub mod Walks
pub mod Whole
pub mod Words
pub mod Writing
pub mod Vectors
