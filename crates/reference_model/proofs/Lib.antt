pub mod Acting
pub mod BySlot
pub mod Bytes
pub mod Events
pub mod Flags
pub mod Following
pub mod Starts
pub mod Stores
