pub mod Characters
pub mod Names
pub mod Escapes
pub mod Sets
pub mod SetPlaces
pub mod Optional
pub mod Numbered
pub mod ByteTests
