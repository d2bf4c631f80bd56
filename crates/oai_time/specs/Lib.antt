pub mod Bound
pub mod Calendar
pub mod Clock
pub mod Stamp
pub mod TimeTexts
