pub mod Counts
pub mod Calls
pub mod Limits
pub mod Names
pub mod Held
pub mod Kinds
pub mod Pool
