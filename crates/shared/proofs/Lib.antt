pub mod Meters
pub mod Exits
pub mod Kept
pub mod NewWorlds
pub mod OnlyProgram
