pub mod Answered
pub mod Lines
pub mod Numbers
pub mod Progress
