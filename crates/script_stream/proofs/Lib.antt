pub mod Inputs
pub mod LineLemmas
pub mod ProgressLemmas
