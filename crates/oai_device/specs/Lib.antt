pub mod Device
pub mod HeldBytes
pub mod PageFile
pub mod Written
