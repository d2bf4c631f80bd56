pub mod Stops
pub mod Tables
pub mod Changes
pub mod Ends
pub mod TokensRead
