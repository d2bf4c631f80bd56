pub mod Store
pub mod Calls
pub mod Plain
