pub mod Stepping
pub mod Keeping
pub mod Serving
pub mod Growing
pub mod Leaving
