pub mod Performs
pub mod Forks
pub mod Accesses
pub mod Calls
pub mod Computes
pub mod Floor
pub mod Narrowing
