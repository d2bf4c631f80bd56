pub mod Watches
pub mod Ends
pub mod Served
pub mod Lives
