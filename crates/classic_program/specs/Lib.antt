pub mod Context
pub mod Faults
pub mod Machine
pub mod Opcode
pub mod Paths
pub mod ReadFaults
pub mod Reading
pub mod WellFormed
