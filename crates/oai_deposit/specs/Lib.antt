pub mod Readings
pub mod Lines
pub mod Shapes
pub mod Dumps
pub mod Calls
pub mod Tokens
