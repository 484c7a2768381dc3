pub mod Asked
pub mod Copying
pub mod Programs
pub mod Refused
pub mod Shapes
pub mod Tables
pub mod Worlds
