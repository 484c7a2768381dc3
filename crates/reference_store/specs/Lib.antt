pub mod State
pub mod Telling
pub mod Births
pub mod Storing
pub mod Retiring
