pub mod Plain
pub mod Runs
