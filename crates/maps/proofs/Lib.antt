pub mod Names
pub mod Picking
pub mod NewMaps
