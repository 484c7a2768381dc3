mod Bytes
pub mod ThreeWords
