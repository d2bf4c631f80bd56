pub mod DocumentTrees
pub mod Schema
pub mod WellFormed
pub mod Answering
pub mod Texts
