pub mod Parts
pub mod ListsLemmas
pub mod Gone
