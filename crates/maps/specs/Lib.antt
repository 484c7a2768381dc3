pub mod Lending
pub mod Registry
pub mod Picking
