pub mod Copies
pub mod Merges
