pub mod Assembling
pub mod Faults
pub mod Grammar
pub mod Reading
