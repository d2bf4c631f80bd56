pub mod Blocks
pub mod Calls
pub mod Naming
pub mod Props
pub mod Store
