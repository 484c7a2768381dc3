pub mod Batches
pub mod JobLines
pub mod Outcomes
pub mod Moving
pub mod TableJobs
