pub mod NameLaws
pub mod Numerals
