pub mod Prelude
pub mod Pairs
pub mod Cells
pub mod Changes
pub mod KindLaws
pub mod Results
pub mod Same
pub mod Setting
