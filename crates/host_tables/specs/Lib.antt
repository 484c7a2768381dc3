pub mod Copies
pub mod Reading
pub mod Tables
pub mod Walks
