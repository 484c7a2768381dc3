pub mod Order
pub mod Chains
pub mod Buckets
pub mod Held
pub mod Many
pub mod Frame
pub mod Sorted
pub mod Replies
