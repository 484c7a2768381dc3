pub mod Prelude
pub mod Calls
pub mod Finding
pub mod Going
mod Holding
mod Keeping
pub mod Keeps
mod Linking
pub mod Lists
pub mod Lookups
mod Peeking
pub mod Places
pub mod Safe
mod Seen
pub mod Serving
mod Slots
pub mod Stretches
