pub mod Numbers
pub mod Opened
pub mod Packets
pub mod Refusals
pub mod Runs
