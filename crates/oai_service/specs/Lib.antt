pub mod Hosting
pub mod Keeping
pub mod Checkpointing
pub mod Lives
pub mod Turns
pub mod Service
pub mod WorkedLives
