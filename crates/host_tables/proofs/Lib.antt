mod Kept
mod KeyWalks
mod Linked
mod Meeting
mod Seeking
mod Summing
mod Tidy
