pub mod BlockResults
pub mod QueueRule
pub mod Serving
pub mod Turns
