pub mod Blocks
pub mod Faults
pub mod Numbers
pub mod Serving
pub mod Sheet
pub mod Stations
pub mod Turns
