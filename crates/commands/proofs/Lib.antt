pub mod Dumped
pub mod Pooled
pub mod PutFirst
pub mod Ran
pub mod ScriptEnds
