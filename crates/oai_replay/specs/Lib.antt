pub mod Redone
pub mod Parts
