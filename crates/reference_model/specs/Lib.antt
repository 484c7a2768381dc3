pub mod Acting
pub mod Following
pub mod MapKeys
pub mod RunState
pub mod State
