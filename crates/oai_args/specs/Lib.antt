pub mod Arguments
pub mod Asks
pub mod Bounds
pub mod Pairs
pub mod Requests
pub mod Steps
pub mod Verbs
