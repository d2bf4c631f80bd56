pub mod Batches
pub mod Inside
pub mod Passing
pub mod Reading
pub mod Snapshots
pub mod Taking
