pub mod Trials
pub mod Words
