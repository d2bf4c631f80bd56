pub mod Begun
pub mod Configurations
pub mod Rules
pub mod Stops
pub mod Written
