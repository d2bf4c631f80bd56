pub mod Json
pub mod Tokens
