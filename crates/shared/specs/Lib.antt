pub mod Meter
pub mod State
pub mod Stretches
pub mod Codes
pub mod Kept
