pub mod Keys
pub mod Guards
pub mod Reading
pub mod ReadingWork
pub mod Warnings
