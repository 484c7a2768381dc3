pub mod Prelude
pub mod Bytes
pub mod Cases
pub mod Keys
pub mod Lists
pub mod Places
