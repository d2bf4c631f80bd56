pub mod Versions
pub mod Changes
pub mod Shelves
pub mod Props
pub mod InOrder
pub mod Store
