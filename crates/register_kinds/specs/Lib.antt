pub mod Contents
pub mod States
pub mod Joined
pub mod Pairs
pub mod JoinTable
pub mod Changes
pub mod FaultNumbers
pub mod Tests
