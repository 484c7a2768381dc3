pub mod Facts
pub mod Lookups
pub mod Steps
pub mod Stepped
pub mod Floor
pub mod Resolved
