pub mod Faults
pub mod Layout
pub mod Notes
pub mod Translation
