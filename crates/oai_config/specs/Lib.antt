pub mod Configs
pub mod ConfigInside
pub mod Shapes
pub mod Written
pub mod Causes
pub mod Reading
pub mod ReadingWork
pub mod Warnings
