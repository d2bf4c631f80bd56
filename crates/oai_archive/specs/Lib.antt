pub mod Firsts
pub mod Readings
pub mod Stops
