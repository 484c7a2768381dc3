pub mod Parted
pub mod Shown
pub mod Arrays
pub mod Kinds
pub mod Updated
pub mod Counting
